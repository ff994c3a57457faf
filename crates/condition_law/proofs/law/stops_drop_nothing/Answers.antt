use Rattle.condition_law.proofs.Fitting as fitting
use Rattle.condition_law.proofs.law.stops_drop_nothing.Goals as goal

pub returns : goal.returns
returns c = fitting.stops_drop_nothing
