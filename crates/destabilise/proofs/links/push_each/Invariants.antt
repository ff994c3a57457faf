use Rattle.std.proofs.Common.{◌⊎◌, ◌↔◌, take}
use Rattle.std.specs.Prelude.{Contains}
use Rattle.constraint_sys.specs.declared.unknown.Unknown.{Unknown}
use Rattle.destabilise.proofs.links.push_each.Given as goal

abbrev pub invariant-loop-u : goal.invariant-loop-u
invariant-loop-u l = (v : Unknown) → Contains l.found.items v ↔ (Contains l.fn.found.items v ⊎ Contains (take l.u-index l.us) v)
