use Rattle.run_law.proofs.Runs as runs
use Rattle.run_law.proofs.law.runs_are_known.Goals as goal

pub returns-clause-known : goal.returns-clause-known
returns-clause-known c = runs.runs_are_known

pub returns-clause-frames : goal.returns-clause-frames
returns-clause-frames c = runs.frames_are_described

pub returns-clause-solved : goal.returns-clause-solved
returns-clause-solved c = runs.solved_tables_are_true
