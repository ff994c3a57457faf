use Rattle.std.proofs.Common.{◌≡◌, ◌++◌, drop}
use Rattle.breakpoint_eval.specs.Watching.{stops_from, stops_of}
use Rattle.breakpoint_eval.proofs.stopping.stops.Given as goal

abbrev pub invariant-loop-index : goal.invariant-loop-index
invariant-loop-index l = l.stops.items ++ stops_from l.program l.table l.index (drop l.index l.breaks) ≡ stops_of l.program l.table l.breaks
