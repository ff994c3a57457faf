use Rattle.std.proofs.Common.{◌≡◌, ◌<◌, ◌↔◌, ℕ, Some, slice_get}
use Rattle.std.specs.Map.{keys_of}
use Rattle.std.specs.Prelude.{Contains}
use Rattle.constraint_sys.specs.Contribution.{read_by}
use Rattle.constraint_sys.specs.Reading.{HasCommon}
use Rattle.constraint_sys.specs.declared.unknown.Unknown.{Unknown}
use Rattle.constraint_sys.proofs.readers.readers.Given as goal

abbrev pub invariant-loop-i : goal.invariant-loop-i
invariant-loop-i l = (q : Unknown) → Contains l.found.items q ↔ (((k : ℕ) × (k < l.i) × (slice_get (keys_of l.table) k ≡ Some q)) × HasCommon l.rose (read_by l.program l.table q))
