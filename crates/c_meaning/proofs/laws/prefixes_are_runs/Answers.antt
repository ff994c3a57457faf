use Rattle.c_meaning.proofs.StepLaws as laws
use Rattle.c_meaning.proofs.laws.prefixes_are_runs.Goals as goal

pub returns : goal.returns
returns c = laws.prefixes_are_runs
