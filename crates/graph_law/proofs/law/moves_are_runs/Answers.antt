use Rattle.graph_law.proofs.Running as running
use Rattle.graph_law.proofs.law.moves_are_runs.Goals as goal

pub returns : goal.returns
returns c = running.moves_are_runs
