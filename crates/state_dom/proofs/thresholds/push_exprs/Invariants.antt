use Rattle.std.proofs.Common.{◌≡◌, ◌++◌, drop}
use Rattle.std.specs.List.{flat_map}
use Rattle.state_dom.specs.ThresholdValues.{numbers_of}
use Rattle.state_dom.proofs.thresholds.push_exprs.Given as goal

abbrev pub invariant-loop-expr : goal.invariant-loop-expr
invariant-loop-expr l = l.numbers.items ++ flat_map numbers_of (drop l.expr-index l.exprs) ≡ l.fn.numbers.items ++ flat_map numbers_of l.exprs
