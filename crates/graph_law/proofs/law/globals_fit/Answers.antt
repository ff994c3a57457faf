use Rattle.graph_law.proofs.Fitting as fitting
use Rattle.graph_law.proofs.law.globals_fit.Goals as goal

pub returns : goal.returns
returns c = fitting.globals_fit
