use Rattle.std.proofs.Common.{◌≡◌, ◌-◌, ◌≤◌, length}
use Rattle.std.specs.Int.{int_min}
use Rattle.lane_bounds.proofs.Places.{partly}
use Rattle.lane_bounds.proofs.joined.lower_to.Given as goal

abbrev pub invariant-loop-x : goal.invariant-loop-x
invariant-loop-x l = (l.at ≤ length l.x) × (l.x ≡ partly int_min l.at l.fn.x l.y)

abbrev pub decreases-loop-x : goal.decreases-loop-x
decreases-loop-x l = length l.x - l.at

abbrev pub invariant-loop-at : goal.invariant-loop-at
invariant-loop-at l = (l.at ≤ length l.x) × (l.x ≡ partly int_min l.at l.fn.x l.y)

abbrev pub decreases-loop-at : goal.decreases-loop-at
decreases-loop-at l = length l.x - l.at
