use Rattle.abs_stepper.proofs.OneMove as moves
use Rattle.abs_stepper.proofs.law.moves_are_one.Goals as goal

pub returns : goal.returns
returns c = moves.moves_are_one
