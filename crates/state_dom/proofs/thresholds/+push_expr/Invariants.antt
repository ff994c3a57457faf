use Rattle.std.proofs.Common.{◌≡◌, ◌++◌, drop, map}
use Rattle.std.specs.List.{flat_map}
use Rattle.state_dom.specs.ThresholdValues.{numbers_of}
use Rattle.state_dom.proofs.thresholds.+push_expr.Given as goal

abbrev pub invariant-loop-arg : goal.invariant-loop-arg
invariant-loop-arg l =
    l.numbers.items ++ flat_map (λ numbers. numbers) (map numbers_of (drop l.arg-index l.arg-items))
    ≡ l.fn.numbers.items ++ numbers_of l.e
