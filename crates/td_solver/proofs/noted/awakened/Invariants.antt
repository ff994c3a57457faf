use Rattle.std.proofs.Common.{◌≡◌, ◌↔◌, ◌⊎◌, take}
use Rattle.std.specs.Prelude.{Contains}
use Rattle.constraint_sys.specs.Reading.{HasCommon}
use Rattle.constraint_sys.specs.declared.unknown.Unknown.{Unknown}
use Rattle.dep_index.specs.Noted.{reads_of}
use Rattle.td_solver.proofs.noted.awakened.Given as goal

abbrev pub invariant-loop-r : goal.invariant-loop-r
invariant-loop-r l = (q : Unknown) → Contains l.awake.items q ↔ (HasCommon (take l.r-index l.rose) (reads_of l.index q) × ((q ≡ l.u) ⊎ (Contains l.dirty q → ⊥)))
