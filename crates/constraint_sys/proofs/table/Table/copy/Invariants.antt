use Rattle.std.proofs.Common.{◌≡◌, take}
use Rattle.constraint_sys.proofs.table.Table.copy.Given as goal

abbrev pub invariant-loop-i : goal.invariant-loop-i
invariant-loop-i l = l.map.entries ≡ take l.i l.self
