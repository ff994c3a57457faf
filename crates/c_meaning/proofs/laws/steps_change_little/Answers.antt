use Rattle.c_meaning.proofs.StepLaws as laws
use Rattle.c_meaning.proofs.laws.steps_change_little.Goals as goal

pub returns : goal.returns
returns c = laws.steps_change_little
