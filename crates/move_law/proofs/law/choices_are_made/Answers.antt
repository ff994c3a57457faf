use Rattle.move_law.proofs.Resting as resting
use Rattle.move_law.proofs.law.choices_are_made.Goals as goal

pub returns-clause-edges : goal.returns-clause-edges
returns-clause-edges c = resting.edges_are_done

pub returns-clause-calls : goal.returns-clause-calls
returns-clause-calls c = resting.calls_are_entered

pub returns-clause-returns : goal.returns-clause-returns
returns-clause-returns c = resting.returns_are_made

pub returns-clause-threads : goal.returns-clause-threads
returns-clause-threads c = resting.threads_are_started
