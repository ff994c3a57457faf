use Rattle.stand_law.proofs.Standing as standing
use Rattle.stand_law.proofs.law.inputs_keep_standing.Goals as goal

pub returns : goal.returns
returns c = standing.inputs_keep_standing
