use Rattle.graph_law.proofs.Lying as lying
use Rattle.graph_law.proofs.law.bodies_lie.Goals as goal

pub returns : goal.returns
returns c = lying.bodies_lie
