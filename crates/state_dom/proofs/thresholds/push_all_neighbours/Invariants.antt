use Rattle.std.proofs.Common.{◌≡◌, ◌++◌, drop}
use Rattle.std.specs.List.{flat_map}
use Rattle.state_dom.specs.ThresholdValues.{neighbours}
use Rattle.state_dom.proofs.thresholds.push_all_neighbours.Given as goal

abbrev pub invariant-loop-c : goal.invariant-loop-c
invariant-loop-c l =
    l.marks.items ++ flat_map (neighbours l.w) (drop l.c-index l.numbers)
    ≡ l.fn.marks.items ++ flat_map (neighbours l.w) l.numbers
