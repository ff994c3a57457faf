use Rattle.std.proofs.Common.{◌≡◌, ◌++◌, drop}
use Rattle.std.specs.Prelude.{filter_map}
use Rattle.arg_graph.specs.Graphs.{offered_in}
use Rattle.abs_stepper.specs.Stepping.{moved_along}
use Rattle.abs_stepper.proofs.stepping.all_moved.Given as goal

abbrev pub invariant-loop-thread : goal.invariant-loop-thread
invariant-loop-thread l = l.new ++ filter_map (moved_along (offered_in l.graph) l.label l.named) (drop l.thread-index l.threads) ≡ filter_map (moved_along (offered_in l.graph) l.label l.named) l.threads
