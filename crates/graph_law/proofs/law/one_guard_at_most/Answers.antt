use Rattle.graph_law.proofs.Guards as guards
use Rattle.graph_law.proofs.law.one_guard_at_most.Goals as goal

pub returns : goal.returns
returns c = guards.one_guard_at_most
