use Rattle.std.proofs.Common.{◌≡◌, ℕ, ◌-◌, ◌<◌, ◌≤◌, false, length, get_or}
use Rattle.lane_bounds.specs.Columns.{at_place}
use Rattle.lane_bounds.specs.Comparisons.{holds_for_some}
use Rattle.lane_bounds.proofs.marked.mark_places.Given as goal

-- the places below at are marked
abbrev pub invariant-loop-at : goal.invariant-loop-at
invariant-loop-at l = (l.at ≤ length l.lo) × ((k : ℕ) → k < l.at → get_or l.out k false ≡ holds_for_some l.op l.c (at_place l.lo k) (at_place l.hi k))

abbrev pub decreases-loop-at : goal.decreases-loop-at
decreases-loop-at l = length l.lo - l.at

abbrev pub invariant-loop-at-2 : goal.invariant-loop-at-2
invariant-loop-at-2 l = (l.at ≤ length l.lo) × ((k : ℕ) → k < l.at → get_or l.out k false ≡ holds_for_some l.op l.c (at_place l.lo k) (at_place l.hi k))

abbrev pub decreases-loop-at-2 : goal.decreases-loop-at-2
decreases-loop-at-2 l = length l.lo - l.at
