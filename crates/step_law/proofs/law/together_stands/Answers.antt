use Rattle.step_law.proofs.Threads as threads
use Rattle.step_law.proofs.law.together_stands.Goals as goal

pub returns : goal.returns
returns c = threads.together_stands
