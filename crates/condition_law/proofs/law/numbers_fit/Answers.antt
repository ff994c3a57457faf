use Rattle.condition_law.proofs.Fitting as fitting
use Rattle.condition_law.proofs.law.numbers_fit.Goals as goal

pub returns : goal.returns
returns c = fitting.numbers_fit
