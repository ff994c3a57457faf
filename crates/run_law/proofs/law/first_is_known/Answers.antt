use Rattle.run_law.proofs.Runs as runs
use Rattle.run_law.proofs.law.first_is_known.Goals as goal

pub returns : goal.returns
returns c = runs.first_is_known
