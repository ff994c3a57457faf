use Rattle.run_law.proofs.Steps as steps
use Rattle.run_law.proofs.law.steps_keep_known.Goals as goal

pub returns : goal.returns
returns c = steps.steps_keep_known
