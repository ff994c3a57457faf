use Rattle.std.proofs.Common.{length}
use Rattle.arg_chain.specs.Calls.{IsNumbered}
use Rattle.arg_chain.proofs.hops.number.Given as goal

abbrev pub invariant-loop-i : goal.invariant-loop-i
invariant-loop-i l = IsNumbered l.vertices l.i l.numbers.entries (length l.numbers.entries)
