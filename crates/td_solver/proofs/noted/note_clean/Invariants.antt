use Rattle.std.proofs.Common.{◌≡◌, ◌<◌, ℕ, Some, slice_get}
use Rattle.std.specs.Map.{keys_of}
use Rattle.std.specs.Prelude.{Contains}
use Rattle.constraint_sys.specs.Contribution.{read_by}
use Rattle.constraint_sys.specs.Sound.{CanTurn}
use Rattle.constraint_sys.specs.declared.unknown.Unknown.{Unknown}
use Rattle.dep_index.specs.Noted.{reads_of}
use Rattle.td_solver.proofs.noted.note_clean.Given as goal

abbrev pub invariant-loop-i : goal.invariant-loop-i
invariant-loop-i l = record {
  points : (q r : Unknown) → Contains (reads_of l.index q) r → CanTurn l.table q;
  exact : (q : Unknown) (k : ℕ) → k < l.i → slice_get (keys_of l.table) k ≡ Some q → CanTurn l.table q → (Contains l.dirty q → ⊥) → reads_of l.index q ≡ read_by l.program l.table q;
}
