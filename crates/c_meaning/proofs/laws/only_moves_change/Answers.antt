use Rattle.c_meaning.proofs.StepLaws as laws
use Rattle.c_meaning.proofs.laws.only_moves_change.Goals as goal

pub returns : goal.returns
returns c = laws.only_moves_change
