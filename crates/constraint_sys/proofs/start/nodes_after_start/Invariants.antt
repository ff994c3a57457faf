use Rattle.std.proofs.Common.{◌≡◌}
use Rattle.constraint_sys.specs.Table.{empty_key}
use Rattle.constraint_sys.specs.Turn.{nodes_after_start}
use Rattle.constraint_sys.proofs.start.nodes_after_start.Given as goal

abbrev pub invariant-loop-node : goal.invariant-loop-node
invariant-loop-node l = l.points.items ≡ nodes_after_start l.func empty_key l.node
