use Rattle.c_meaning.proofs.DemandLaws as laws
use Rattle.c_meaning.proofs.laws.missing_takes_all.Goals as goal

pub returns : goal.returns
returns c = laws.missing_takes_all
