use Rattle.std.proofs.Common.{[], take}
use Rattle.arg_chain.specs.Walk.{Spreads, IsBeforeOne}
use Rattle.arg_chain.proofs.distances.spread.Given as goal

abbrev pub invariant-loop-w : goal.invariant-loop-w
invariant-loop-w l = Spreads l.fn.known.items [] (IsBeforeOne l.before (take l.w-index l.front)) l.level l.known.items l.next.items
