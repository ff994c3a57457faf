use Rattle.std.proofs.Common.{◌≡◌, ◌↔◌, take}
use Rattle.std.specs.Prelude.{Contains}
use Rattle.constraint_sys.specs.Table.{unknown_cmp}
use Rattle.constraint_sys.specs.declared.unknown.Unknown.{Unknown}
use Rattle.dep_index.specs.Rows.{set_at, HasRoom, IsAscending}
use Rattle.dep_index.proofs.rows.take_each.Given as goal

abbrev pub invariant-loop-u : goal.invariant-loop-u
invariant-loop-u l = record {
  members : (w y : Unknown) → Contains (set_at l.rows.entries w) y ↔ (Contains (set_at l.fn.rows.entries w) y × ((y ≡ l.q) × Contains (take l.u-index l.us) w → ⊥));
  ascending : (w : Unknown) → IsAscending unknown_cmp (set_at l.rows.entries w);
  rooms : (w : Unknown) → HasRoom l.fn.rows.entries w → HasRoom l.rows.entries w;
}
