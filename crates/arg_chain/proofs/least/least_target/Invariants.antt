use Rattle.std.proofs.Common.{take}
use Rattle.arg_chain.specs.Choice.{IsLeastOf, IsTarget}
use Rattle.arg_chain.proofs.least.least_target.Given as goal

abbrev pub invariant-loop-step : goal.invariant-loop-step
invariant-loop-step l = IsLeastOf (IsTarget (take l.step-index l.steps) l.known l.d) l.best
