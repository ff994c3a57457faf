use Rattle.std.proofs.Common.{take}
use Rattle.constraint_sys.specs.Carry.{KeepsEntries}
use Rattle.global_restart.proofs.kept.kept_entries.Given as goal

abbrev pub invariant-loop-i : goal.invariant-loop-i
invariant-loop-i l = KeepsEntries l.old l.new l.table (take l.i l.table) l.kept
