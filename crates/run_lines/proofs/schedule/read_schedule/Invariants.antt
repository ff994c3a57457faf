use Rattle.std.proofs.Common.{◌≡◌, ◌+◌, ◌≤◌, length}
use Rattle.run_lines.specs.Schedule.{lines_of, joined, choices_from, schedule_of}
use Rattle.run_lines.proofs.schedule.read_schedule.Given as goal

abbrev pub invariant-loop-rest : goal.invariant-loop-rest
invariant-loop-rest l = record {
  read : joined l.choices (choices_from l.line (lines_of l.rest)) ≡ schedule_of l.text;
  few : length l.choices + length l.rest ≤ length l.text;
  lines : l.line + length l.rest ≤ length l.text + 1;
}

abbrev pub decreases-loop-rest : goal.decreases-loop-rest
decreases-loop-rest l = length l.rest
