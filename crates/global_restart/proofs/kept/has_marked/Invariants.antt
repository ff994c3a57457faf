use Rattle.std.proofs.Common.{take}
use Rattle.std.specs.Prelude.{Contains}
use Rattle.constraint_sys.specs.declared.unknown.Unknown.{Unknown}
use Rattle.destabilise.specs.Marked.{IsMarked}
use Rattle.global_restart.proofs.kept.has_marked.Given as goal

abbrev pub invariant-loop-u : goal.invariant-loop-u
invariant-loop-u l = (v : Unknown) → Contains (take l.u-index l.us) v → IsMarked l.marks v → ⊥
