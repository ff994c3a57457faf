use Rattle.std.proofs.Common.{◌≡◌, ◌++◌, drop}
use Rattle.breakpoint_eval.specs.Watching.{global_intervals, globals_from}
use Rattle.breakpoint_eval.proofs.vertices.global_intervals.Given as goal

abbrev pub invariant-loop-g : goal.invariant-loop-g
invariant-loop-g l = l.intervals.items ++ globals_from l.table l.g (drop l.g l.program.globals) ≡ global_intervals l.program l.table
