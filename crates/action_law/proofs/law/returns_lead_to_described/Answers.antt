use Rattle.action_law.proofs.Calls as calls
use Rattle.action_law.proofs.law.returns_lead_to_described.Goals as goal

pub returns : goal.returns
returns c = calls.returns_lead_to_states
