use Rattle.std.proofs.Common.{◌↔◌, ◌⊎◌, take}
use Rattle.std.specs.Prelude.{Contains}
use Rattle.constraint_sys.specs.declared.unknown.Unknown.{Unknown}
use Rattle.constraint_sys.specs.Turn.{IsAscending}
use Rattle.constraint_sys.proofs.dirty.try_add.Given as goal

abbrev pub invariant-loop-u : goal.invariant-loop-u
invariant-loop-u l = record {
  ok : (q : Unknown) → Contains l.points.keys q ↔ (Contains l.fn.points.keys q ⊎ Contains (take l.u-index l.more) q);
  noted : (q : Unknown) → Contains l.points.keys q → Contains l.fn.points.keys q ⊎ Contains l.added.items q;
  absent : (q : Unknown) → Contains l.added.items q → Contains l.fn.points.keys q → ⊥;
  ascending : IsAscending l.points.keys;
}
