use Rattle.std.proofs.Common.{◌≡◌, ◌++◌, drop}
use Rattle.c_check.specs.Units.{prototypes}
use Rattle.c_check.proofs.units.prototypes_of.Given as goal

abbrev pub invariant-loop-item : goal.invariant-loop-item
invariant-loop-item l = prototypes l.items ≡ l.list ++ prototypes (drop l.item-index l.items)
