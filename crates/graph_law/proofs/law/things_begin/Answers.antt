use Rattle.graph_law.proofs.Beginning as beginning
use Rattle.graph_law.proofs.law.things_begin.Goals as goal

pub returns : goal.returns
returns c = beginning.things_begin
