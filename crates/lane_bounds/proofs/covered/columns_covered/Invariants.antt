use Rattle.std.proofs.Common.{◌≡◌, ◌-◌, ◌≤◌, length, drop}
use Rattle.lane_bounds.specs.Columns.{all_covered}
use Rattle.lane_bounds.proofs.covered.columns_covered.Given as goal

-- the places from `at` on decide
abbrev pub invariant-loop-at : goal.invariant-loop-at
invariant-loop-at l = (l.at ≤ length l.a_lo) × (all_covered l.a_lo l.a_hi l.b_lo l.b_hi ≡ all_covered (drop l.at l.a_lo) (drop l.at l.a_hi) (drop l.at l.b_lo) (drop l.at l.b_hi))

abbrev pub decreases-loop-at : goal.decreases-loop-at
decreases-loop-at l = length l.a_lo - l.at

abbrev pub invariant-loop-at-2 : goal.invariant-loop-at-2
invariant-loop-at-2 l = (l.at ≤ length l.a_lo) × (all_covered l.a_lo l.a_hi l.b_lo l.b_hi ≡ all_covered (drop l.at l.a_lo) (drop l.at l.a_hi) (drop l.at l.b_lo) (drop l.at l.b_hi))

abbrev pub decreases-loop-at-2 : goal.decreases-loop-at-2
decreases-loop-at-2 l = length l.a_lo - l.at
