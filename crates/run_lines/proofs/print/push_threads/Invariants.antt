use Rattle.std.proofs.Common.{◌≡◌, ◌+◌, ◌-◌, ◌++◌, length}
use Rattle.run_lines.specs.Lines as spec
use Rattle.run_lines.proofs.print.push_threads.Given as goal

abbrev pub invariant-loop-before : goal.invariant-loop-before
invariant-loop-before l = l.out.items ++ spec.thread_lines l.unit l.machine (l.before + 1) (length l.machine.threads - l.before) ≡ l.fn.out.items ++ spec.thread_lines l.unit l.machine 1 (length l.machine.threads)
