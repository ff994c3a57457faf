use Rattle.std.proofs.Common.{◌≡◌, ◌<◌, ◌↔◌, ℕ, Some}
use Rattle.std.specs.Prelude.{slice_get}
use Rattle.lockset_dom.specs.Members.{Holds}
use Rattle.global_restart.proofs.renaming.renamed_locks.Given as goal

abbrev pub invariant-loop-m : goal.invariant-loop-m
invariant-loop-m l = (n : ℕ) → Holds l.renamed n ↔ ((m : ℕ) × (m < l.m) × Holds l.locks m × (slice_get l.matching.mutexes m ≡ Some (Some n)))
