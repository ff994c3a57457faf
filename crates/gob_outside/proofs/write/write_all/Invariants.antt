use Rattle.std.proofs.Common.{length, ◌-◌, ◌≡◌, ◌≤◌, ◌++◌, take, option_map}
use Rattle.gob_outside.proofs.write.write_all.Given as goal

abbrev pub invariant-loop-sent : goal.invariant-loop-sent
invariant-loop-sent g l = record {
  within : l.sent ≤ length l.bytes;
  wrote : (g.S.Sink.seen l.sink).written ≡ option_map (λ before. before ++ take l.sent l.bytes) (g.S.Sink.seen l.initial.sink).written;
  fine : (g.S.Sink.seen l.sink).faults ≡ (g.S.Sink.seen l.initial.sink).faults;
  step : g.S.Sink.write_step l.initial.sink l.sink;
}

abbrev pub decreases-loop-sent : goal.decreases-loop-sent
decreases-loop-sent g l = length l.bytes - l.sent
