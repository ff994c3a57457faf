use Rattle.graph_law.proofs.FormingExampleProofs as worked
use Rattle.graph_law.proofs.examples.sizes_by_hand.Goals as goal

pub returns-clause-within : goal.returns-clause-within
returns-clause-within c = worked.within

pub returns-clause-functions : goal.returns-clause-functions
returns-clause-functions c = worked.functions

pub returns-clause-globals : goal.returns-clause-globals
returns-clause-globals c = worked.globals

pub returns-clause-mutexes : goal.returns-clause-mutexes
returns-clause-mutexes c = worked.mutexes

pub returns-clause-params : goal.returns-clause-params
returns-clause-params c = worked.params

pub returns-clause-slots : goal.returns-clause-slots
returns-clause-slots c = worked.slots

pub returns-clause-nodes : goal.returns-clause-nodes
returns-clause-nodes c = worked.nodes
