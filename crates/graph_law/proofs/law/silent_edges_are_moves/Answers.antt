use Rattle.graph_law.proofs.Settling as settling
use Rattle.graph_law.proofs.law.silent_edges_are_moves.Goals as goal

pub returns : goal.returns
returns c = settling.silent_edges_are_moves
