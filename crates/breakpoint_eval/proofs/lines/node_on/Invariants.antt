use Rattle.std.proofs.Common.{ℕ, ◌<◌}
use Rattle.breakpoint_eval.specs.Lines.{StandsIn}
use Rattle.breakpoint_eval.proofs.lines.node_on.Given as goal

abbrev pub invariant-loop-node : goal.invariant-loop-node
invariant-loop-node l = (other : ℕ) → other < l.node → ¬ StandsIn l.function l.line other
