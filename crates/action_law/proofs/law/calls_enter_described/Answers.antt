use Rattle.action_law.proofs.Calls as calls
use Rattle.action_law.proofs.law.calls_enter_described.Goals as goal

pub returns : goal.returns
returns c = calls.calls_enter
