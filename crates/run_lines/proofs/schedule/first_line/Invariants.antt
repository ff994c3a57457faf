use Rattle.std.proofs.Common.{take}
use Rattle.run_lines.proofs.Cutting.{Lacks}
use Rattle.run_lines.proofs.schedule.first_line.Given as goal

abbrev pub invariant-loop-i : goal.invariant-loop-i
invariant-loop-i l = Lacks 10 (take l.i l.text)
