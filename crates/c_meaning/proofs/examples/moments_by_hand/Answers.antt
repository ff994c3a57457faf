use Rattle.c_meaning.proofs.StandExampleProofs as stands
use Rattle.c_meaning.proofs.WalkExampleProofs as examples
use Rattle.c_meaning.proofs.examples.moments_by_hand.Goals as goal

pub returns-clause-tree : goal.returns-clause-tree
returns-clause-tree c = examples.joining_left

pub returns-clause-over_silent_edges : goal.returns-clause-over_silent_edges
returns-clause-over_silent_edges c = examples.joining_stands

pub returns-clause-called_tree : goal.returns-clause-called_tree
returns-clause-called_tree c = stands.calling_left

pub returns-clause-with_a_caller : goal.returns-clause-with_a_caller
returns-clause-with_a_caller c = stands.calling_stands

pub returns-clause-ended_tree : goal.returns-clause-ended_tree
returns-clause-ended_tree c = stands.returning_left

pub returns-clause-ended : goal.returns-clause-ended
returns-clause-ended c = stands.ended_stands
