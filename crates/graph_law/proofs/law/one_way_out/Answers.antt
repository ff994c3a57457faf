use Rattle.graph_law.proofs.Statements as statements
use Rattle.graph_law.proofs.law.one_way_out.Goals as goal

pub returns : goal.returns
returns c = statements.one_way_out
