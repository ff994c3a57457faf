use Rattle.std.proofs.Common.{◌≡◌, ◌⊎◌, ◌↔◌, ◌<◌, ℕ}
use Rattle.std.specs.Prelude.{Contains}
use Rattle.constraint_sys.specs.declared.unknown.Unknown.{Unknown}
use Rattle.constraint_sys.specs.declared.unknown.Unknown.TheVariants.{Point}
use Rattle.destabilise.proofs.links.push_points.Given as goal

abbrev pub invariant-loop-node : goal.invariant-loop-node
invariant-loop-node l = (v : Unknown) → Contains l.found.items v ↔ (Contains l.fn.found.items v ⊎ ((n : ℕ) × (n < l.node) × (v ≡ Point l.func l.key n)))
