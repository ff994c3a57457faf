use Rattle.std.proofs.Common.{◌↔◌, take}
use Rattle.std.specs.Prelude.{Contains}
use Rattle.constraint_sys.specs.declared.unknown.Unknown.{Unknown}
use Rattle.constraint_sys.specs.Turn.{IsAscending}
use Rattle.constraint_sys.proofs.dirty.take_back.Given as goal

abbrev pub invariant-loop-u : goal.invariant-loop-u
invariant-loop-u l = record {
  members : (q : Unknown) → Contains l.points.keys q ↔ (Contains l.fn.points.keys q × (Contains (take l.u-index l.added) q → ⊥));
  ascending : IsAscending l.points.keys;
}
