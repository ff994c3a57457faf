use Rattle.std.proofs.Common.{◌≡◌, ◌↔◌, ◌<◌, ℕ, Some, length}
use Rattle.std.specs.Prelude.{slice_get}
use Rattle.destabilise.specs.Matched.{IsSame}
use Rattle.destabilise.proofs.matching.matched_by.Given as goal

abbrev pub invariant-loop-i : goal.invariant-loop-i
invariant-loop-i l = record {
  len : length l.matches ≡ l.i;
  matches_are : (k j : ℕ) → (slice_get l.matches k ≡ Some (Some j)) ↔ ((k < l.i) × IsSame l.kind l.old k l.new j);
}
