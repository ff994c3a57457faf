use Rattle.std.proofs.Common.{take}
use Rattle.std.specs.Prelude.{Contains}
use Rattle.arg_chain.specs.Walk.{Spreads}
use Rattle.arg_chain.proofs.distances.reach_each.Given as goal

abbrev pub invariant-loop-u : goal.invariant-loop-u
invariant-loop-u l = Spreads l.fn.known.items l.fn.next.items (Contains (take l.u-index l.us)) l.level l.known.items l.next.items
