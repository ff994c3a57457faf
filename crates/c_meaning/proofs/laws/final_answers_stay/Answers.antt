use Rattle.c_meaning.proofs.DemandLaws as laws
use Rattle.c_meaning.proofs.laws.final_answers_stay.Goals as goal

pub returns : goal.returns
returns c = laws.final_answers_stay
