use Rattle.std.proofs.Common.{◌↔◌, take}
use Rattle.std.specs.Prelude.{Contains}
use Rattle.constraint_sys.specs.declared.unknown.Unknown.{Unknown}
use Rattle.constraint_sys.specs.Carry.{targets_of}
use Rattle.constraint_sys.specs.Contribution.{read_by}
use Rattle.dep_index.specs.Noted.{reads_of}
use Rattle.destabilise.specs.Linked.{targets_at}
use Rattle.destabilise.proofs.links.Links.of.Given as goal

abbrev pub invariant-loop-u : goal.invariant-loop-u
invariant-loop-u l = record {
  readers : (u q : Unknown) → Contains (reads_of l.readers q) u ↔ (Contains (take l.u-index l.u-items) q × Contains (read_by l.program l.table q) u);
  targets : (v u : Unknown) → Contains (targets_at l.targets.entries u) v ↔ (Contains (take l.u-index l.u-items) u × Contains (targets_of l.program l.table u) v);
}
