use Rattle.abs_stepper.proofs.Going.{IsGoing}
use Rattle.abs_stepper.proofs.Marks.{unset}
use Rattle.abs_stepper.proofs.statements.moved_on.Given as goal

abbrev pub invariant-steps : goal.invariant-steps
invariant-steps l = IsGoing l.program l.graph l.way l.thread l.began l.at l.been.items l.last l.now

abbrev pub decreases-steps : goal.decreases-steps
decreases-steps l = unset l.been.items
