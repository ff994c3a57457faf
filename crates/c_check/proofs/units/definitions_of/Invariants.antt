use Rattle.std.proofs.Common.{◌≡◌, ◌++◌, length, drop}
use Rattle.c_check.specs.Units.{definitions}
use Rattle.c_check.proofs.units.definitions_of.Given as goal

abbrev pub invariant-loop-item : goal.invariant-loop-item
invariant-loop-item l = definitions 0 l.items ≡ l.list ++ definitions (length l.list) (drop l.item-index l.items)
