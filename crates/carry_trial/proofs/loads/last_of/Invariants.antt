use Rattle.carry_trial.specs.Solutions.{IsSolution}
use Rattle.carry_trial.proofs.loads.last_of.Given as goal

abbrev pub invariant-loop-text : goal.invariant-loop-text
invariant-loop-text l = IsSolution l.last
