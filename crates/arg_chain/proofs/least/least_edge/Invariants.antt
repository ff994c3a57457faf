use Rattle.std.proofs.Common.{take}
use Rattle.arg_chain.specs.Choice.{IsLeastOf, IsEdgeTo}
use Rattle.arg_chain.proofs.least.least_edge.Given as goal

abbrev pub invariant-loop-step : goal.invariant-loop-step
invariant-loop-step l = IsLeastOf (IsEdgeTo (take l.step-index l.steps) l.to) l.best
