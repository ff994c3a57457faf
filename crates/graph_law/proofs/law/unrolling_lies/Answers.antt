use Rattle.graph_law.proofs.Lying as lying
use Rattle.graph_law.proofs.law.unrolling_lies.Goals as goal

pub returns : goal.returns
returns c = lying.unrolling_lies
