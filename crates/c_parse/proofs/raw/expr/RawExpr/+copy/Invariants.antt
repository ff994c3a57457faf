use Rattle.std.proofs.Common.{◌≡◌, take}
use Rattle.c_parse.proofs.raw.expr.RawExpr.+copy.Given as goal

abbrev pub invariant-loop-arg : goal.invariant-loop-arg
invariant-loop-arg l = l.list ≡ take l.arg-index l.arg-items
