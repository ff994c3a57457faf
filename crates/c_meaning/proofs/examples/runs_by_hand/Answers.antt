use Rattle.c_meaning.proofs.StepExampleProofs as examples
use Rattle.c_meaning.proofs.examples.runs_by_hand.Goals as goal

pub returns-clause-second_lock : goal.returns-clause-second_lock
returns-clause-second_lock c = examples.second_lock

pub returns-clause-no_thread_before_ended : goal.returns-clause-no_thread_before_ended
returns-clause-no_thread_before_ended c = examples.no_thread_before_ended

pub returns-clause-division : goal.returns-clause-division
returns-clause-division c = examples.division

pub returns-clause-unlock_of_free : goal.returns-clause-unlock_of_free
returns-clause-unlock_of_free c = examples.unlock_of_free

pub returns-clause-join_of_none : goal.returns-clause-join_of_none
returns-clause-join_of_none c = examples.join_of_none

pub returns-clause-join_waits : goal.returns-clause-join_waits
returns-clause-join_waits c = examples.join_waits

pub returns-clause-sum_above_greatest : goal.returns-clause-sum_above_greatest
returns-clause-sum_above_greatest c = examples.sum_above_greatest

pub returns-clause-long_and_int : goal.returns-clause-long_and_int
returns-clause-long_and_int c = examples.long_slots_kept

pub returns-clause-two_threads : goal.returns-clause-two_threads
returns-clause-two_threads c = examples.two_threads

pub returns-clause-two_reads : goal.returns-clause-two_reads
returns-clause-two_reads c = examples.two_reads_kept

pub returns-clause-inside_call : goal.returns-clause-inside_call
returns-clause-inside_call c = examples.inside_call

pub returns-clause-after_call : goal.returns-clause-after_call
returns-clause-after_call c = examples.after_call

pub returns-clause-loop_turns : goal.returns-clause-loop_turns
returns-clause-loop_turns c = examples.loop_turns
