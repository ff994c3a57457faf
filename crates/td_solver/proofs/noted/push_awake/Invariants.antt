use Rattle.std.proofs.Common.{◌≡◌, ◌↔◌, ◌⊎◌, take}
use Rattle.std.specs.Prelude.{Contains}
use Rattle.constraint_sys.specs.declared.unknown.Unknown.{Unknown}
use Rattle.td_solver.proofs.noted.push_awake.Given as goal

abbrev pub invariant-loop-q : goal.invariant-loop-q
invariant-loop-q l = (q : Unknown) → Contains l.awake.items q ↔ (Contains l.fn.awake.items q ⊎ (Contains (take l.q-index l.readers) q × ((q ≡ l.u) ⊎ (Contains l.dirty q → ⊥))))
