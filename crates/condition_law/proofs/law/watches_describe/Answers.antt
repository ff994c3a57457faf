use Rattle.condition_law.proofs.Fitting as fitting
use Rattle.condition_law.proofs.law.watches_describe.Goals as goal

pub returns : goal.returns
returns c = fitting.watches_describe
