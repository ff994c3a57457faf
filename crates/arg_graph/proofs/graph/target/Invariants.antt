use Rattle.std.proofs.Common.{◌≡◌, drop}
use Rattle.arg_graph.specs.Following.{target_of}
use Rattle.arg_graph.proofs.graph.target.Given as goal

abbrev pub invariant-loop-step : goal.invariant-loop-step
invariant-loop-step l = target_of l.label (drop l.step-index l.steps) ≡ target_of l.label l.steps
