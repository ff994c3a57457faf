use Rattle.std.proofs.Common.{take}
use Rattle.std.specs.Prelude.{Contains, IfSome}
use Rattle.constraint_sys.specs.declared.unknown.Unknown.{Unknown}
use Rattle.post_check.specs.Unbroken.{HasItsNodes, IsUnbroken}
use Rattle.post_check.proofs.breach.first_of_table.Given as goal

abbrev pub invariant-loop-u : goal.invariant-loop-u
invariant-loop-u l = record {
  unbroken : (w : Unknown) → Contains (take l.u-index l.u-items) w → IsUnbroken l.program l.table w;
  last : IfSome l.last (HasItsNodes l.program l.table);
}
