use Rattle.std.proofs.Common.{◌≡◌, take, map}
use Rattle.gob_tree.specs.Named.{named_expr}
use Rattle.gob_tree.proofs.same.+same_expr.Given as goal

abbrev pub invariant-same_exprs-loop-i : goal.invariant-same_exprs-loop-i
invariant-same_exprs-loop-i l = map (named_expr l.a) (take l.i l.xs) ≡ map (named_expr l.b) (take l.i l.ys)
