use Rattle.std.proofs.Common.{take}
use Rattle.run_lines.proofs.Cutting.{Lacks}
use Rattle.run_lines.proofs.schedule.at_blank.Given as goal

abbrev pub invariant-loop-i : goal.invariant-loop-i
invariant-loop-i l = Lacks 32 (take l.i l.line)
