use Rattle.action_law.proofs.Edges as edges
use Rattle.action_law.proofs.Globals as globals
use Rattle.action_law.proofs.law.edges_lead_to_described.Goals as goal

pub returns-clause-state : goal.returns-clause-state
returns-clause-state c = edges.edges_lead_to_states

pub returns-clause-effects : goal.returns-clause-effects
returns-clause-effects c = edges.edges_have_effects

pub returns-clause-globals : goal.returns-clause-globals
returns-clause-globals c = globals.edges_keep_globals
