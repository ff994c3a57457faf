use Rattle.along_law.proofs.Runs as runs
use Rattle.along_law.proofs.law.runs_stay_together.Goals as goal

pub returns-clause-runs : goal.returns-clause-runs
returns-clause-runs c = runs.runs_stay_together

pub returns-clause-moments : goal.returns-clause-moments
returns-clause-moments c = runs.moments_stand
