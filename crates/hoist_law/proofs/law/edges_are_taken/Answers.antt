use Rattle.hoist_law.proofs.Leaving as leaving_edges
use Rattle.hoist_law.proofs.law.edges_are_taken.Goals as goal

pub returns-clause-silent : goal.returns-clause-silent
returns-clause-silent c = leaving_edges.silent_edges_are_done

pub returns-clause-inputs : goal.returns-clause-inputs
returns-clause-inputs c = leaving_edges.inputs_are_taken
