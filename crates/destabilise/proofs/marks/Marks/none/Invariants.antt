use Rattle.std.proofs.Common.{◌↔◌, take}
use Rattle.std.specs.Prelude.{Contains}
use Rattle.constraint_sys.specs.declared.unknown.Unknown.{Unknown}
use Rattle.destabilise.specs.Marked.{IsIn, IsMarked}
use Rattle.destabilise.proofs.marks.Marks.none.Given as goal

abbrev pub invariant-loop-u : goal.invariant-loop-u
invariant-loop-u l = record {
  there : (v : Unknown) → IsIn l.map.entries v ↔ Contains (take l.u-index l.u-items) v;
  none : (v : Unknown) → IsMarked l.map.entries v → ⊥;
}
