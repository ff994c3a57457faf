use Rattle.graph_law.proofs.Keeping as keeping
use Rattle.graph_law.proofs.Quieting as quieting
use Rattle.graph_law.proofs.law.silent_edges_are_quiet.Goals as goal

pub returns-clause-edges : goal.returns-clause-edges
returns-clause-edges c = quieting.silent_edges_are_quiet

pub returns-clause-named : goal.returns-clause-named
returns-clause-named c = keeping.settling_keeps_named
