use Rattle.std.proofs.Common.{◌≡◌, take}
use Rattle.gob_tree.proofs.expr.copy_exprs.Given as goal

abbrev pub invariant-loop-expr : goal.invariant-loop-expr
invariant-loop-expr l = l.list ≡ take l.expr-index l.exprs
