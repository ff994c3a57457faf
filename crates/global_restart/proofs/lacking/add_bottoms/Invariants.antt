use Rattle.global_restart.proofs.Adding.{NodesComing}
use Rattle.global_restart.proofs.lacking.add_bottoms.Given as goal

abbrev pub invariant-loop-node : goal.invariant-loop-node
invariant-loop-node l = NodesComing l.fn.table l.table l.fn.added.items l.added.items l.room l.func l.key l.node
