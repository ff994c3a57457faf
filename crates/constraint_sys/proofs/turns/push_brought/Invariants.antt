use Rattle.std.proofs.Common.{◌≡◌, ◌<◌, ◌≤◌, ◌↔◌, ◌⊎◌, ℕ, Some, slice_get}
use Rattle.std.specs.Map.{keys_of}
use Rattle.std.specs.Prelude.{Contains}
use Rattle.constraint_sys.specs.Arising.{IsInner}
use Rattle.constraint_sys.specs.declared.unknown.Unknown.{Unknown}
use Rattle.constraint_sys.proofs.turns.push_brought.Given as goal

abbrev pub invariant-loop-i : goal.invariant-loop-i
invariant-loop-i l = (q : Unknown) → Contains l.more.items q ↔ (Contains l.fn.more.items q ⊎ (IsInner q × ((k : ℕ) × (l.from ≤ k) × (k < l.i) × (slice_get (keys_of l.table) k ≡ Some q))))
