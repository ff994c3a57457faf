use Rattle.std.proofs.Common.{◌↔◌, take}
use Rattle.std.specs.Map.{keys_of}
use Rattle.std.specs.Prelude.{Contains}
use Rattle.constraint_sys.specs.declared.unknown.Unknown.{Unknown}
use Rattle.global_restart.specs.Keeping.{LostAmong}
use Rattle.global_restart.proofs.kept.lost_targets.Given as goal

abbrev pub invariant-loop-i : goal.invariant-loop-i
invariant-loop-i l = (q : Unknown) → Contains l.lost.items q ↔ LostAmong l.old l.new l.table (take l.i (keys_of l.table)) q
