use Rattle.std.proofs.Common.{◌≡◌, ◌++◌, drop}
use Rattle.c_meaning.specs.Config.{param_values, first_values}
use Rattle.tree_run.proofs.frame.first_numbers.Given as goal

abbrev pub invariant-loop-slot : goal.invariant-loop-slot
invariant-loop-slot l = l.numbers.items ++ param_values (drop l.slot-index l.named) l.left ≡ first_values l.slots l.args
