use Rattle.graph_law.proofs.Starting as starting
use Rattle.graph_law.proofs.law.first_stands.Goals as goal

pub returns : goal.returns
returns c = starting.first_stands
