use Rattle.std.proofs.Common.{◌↔◌, take}
use Rattle.std.specs.Prelude.{Contains}
use Rattle.constraint_sys.specs.declared.unknown.Unknown.{Unknown}
use Rattle.dep_index.proofs.gone.without.Given as goal

abbrev pub invariant-loop-x : goal.invariant-loop-x
invariant-loop-x l = (w : Unknown) → Contains l.rest.items w ↔ (Contains (take l.x-index l.xs) w × (Contains l.ys w → ⊥))
