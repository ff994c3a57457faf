use Rattle.std.proofs.Common.{◌≡◌, ◌+◌, ◌++◌, drop}
use Rattle.run_lines.specs.Lines as spec
use Rattle.run_lines.proofs.print.push_steps.Given as goal

abbrev pub invariant-loop-i : goal.invariant-loop-i
invariant-loop-i l = l.out.items ++ spec.step_lines (l.i + 1) (drop l.i l.choices) (drop l.i l.words) ≡ l.fn.out.items ++ spec.step_lines 1 l.choices l.words
