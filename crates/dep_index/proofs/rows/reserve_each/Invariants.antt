use Rattle.std.proofs.Common.{◌≡◌, take}
use Rattle.std.specs.Prelude.{Contains}
use Rattle.constraint_sys.specs.declared.unknown.Unknown.{Unknown}
use Rattle.dep_index.specs.Rows.{set_at, HasRoom}
use Rattle.dep_index.proofs.rows.reserve_each.Given as goal

abbrev pub invariant-loop-u : goal.invariant-loop-u
invariant-loop-u l = record {
  same : (w : Unknown) → set_at l.rows.entries w ≡ set_at l.fn.rows.entries w;
  room : (u : Unknown) → Contains (take l.u-index l.us) u → HasRoom l.rows.entries u;
}
