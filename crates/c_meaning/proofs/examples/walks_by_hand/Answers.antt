use Rattle.c_meaning.proofs.WalkExampleProofs as examples
use Rattle.c_meaning.proofs.examples.walks_by_hand.Goals as goal

pub returns-clause-main : goal.returns-clause-main
returns-clause-main c = examples.main

pub returns-clause-thread : goal.returns-clause-thread
returns-clause-thread c = examples.thread

pub returns-clause-over_silent_edges : goal.returns-clause-over_silent_edges
returns-clause-over_silent_edges c = examples.over_silent_edges

pub returns-clause-through_a_call : goal.returns-clause-through_a_call
returns-clause-through_a_call c = examples.through_a_call

pub returns-clause-no_run : goal.returns-clause-no_run
returns-clause-no_run c = examples.no_walk
