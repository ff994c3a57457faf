use Rattle.std.proofs.Common.{ℕ, ◌<◌}
use Rattle.breakpoint_eval.specs.Lines.{StandsOn}
use Rattle.breakpoint_eval.proofs.lines.resolve.Given as goal

abbrev pub invariant-loop-func : goal.invariant-loop-func
invariant-loop-func l = (f node : ℕ) → f < l.func → ¬ StandsOn l.program l.line f node
