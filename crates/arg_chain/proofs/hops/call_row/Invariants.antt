use Rattle.std.proofs.Common.{◌≡◌, ◌++◌, drop}
use Rattle.std.specs.List.{flat_map}
use Rattle.arg_chain.specs.Calls.{hop_of}
use Rattle.arg_chain.proofs.hops.call_row.Given as goal

abbrev pub invariant-loop-step : goal.invariant-loop-step
invariant-loop-step l = l.row.items ++ flat_map (hop_of l.numbers.entries l.fn.vertices) (drop l.step-index l.steps) ≡ flat_map (hop_of l.numbers.entries l.fn.vertices) l.steps
