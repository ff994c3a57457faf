use Rattle.std.proofs.Common.{◌≡◌, ◌++◌, drop}
use Rattle.std.specs.Prelude.{filter_map}
use Rattle.arg_graph.specs.Graphs.{offered_in}
use Rattle.abs_stepper.specs.Stepping.{returned_along}
use Rattle.abs_stepper.proofs.stepping.all_returned.Given as goal

abbrev pub invariant-loop-thread : goal.invariant-loop-thread
invariant-loop-thread l = l.new ++ filter_map (returned_along (offered_in l.graph) l.named) (drop l.thread-index l.threads) ≡ filter_map (returned_along (offered_in l.graph) l.named) l.threads
