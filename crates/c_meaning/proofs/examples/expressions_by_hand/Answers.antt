use Rattle.c_meaning.proofs.StepExampleProofs as examples
use Rattle.c_meaning.proofs.examples.expressions_by_hand.Goals as goal

pub returns-clause-division_by_zero : goal.returns-clause-division_by_zero
returns-clause-division_by_zero c = examples.division_by_zero

pub returns-clause-sum_wraps : goal.returns-clause-sum_wraps
returns-clause-sum_wraps c = examples.sum_wraps

pub returns-clause-least_by_minus_one : goal.returns-clause-least_by_minus_one
returns-clause-least_by_minus_one c = examples.least_by_minus_one

pub returns-clause-long_and_int : goal.returns-clause-long_and_int
returns-clause-long_and_int c = examples.long_and_int

pub returns-clause-long_into_int : goal.returns-clause-long_into_int
returns-clause-long_into_int c = examples.long_into_int

pub returns-clause-second_missing : goal.returns-clause-second_missing
returns-clause-second_missing c = examples.second_missing

pub returns-clause-both_given : goal.returns-clause-both_given
returns-clause-both_given c = examples.both_given

pub returns-clause-fault_before_input : goal.returns-clause-fault_before_input
returns-clause-fault_before_input c = examples.fault_before_input

pub returns-clause-stops_early : goal.returns-clause-stops_early
returns-clause-stops_early c = examples.stops_early

pub returns-clause-int_and_long : goal.returns-clause-int_and_long
returns-clause-int_and_long c = examples.int_and_long

pub returns-clause-or_stops_early : goal.returns-clause-or_stops_early
returns-clause-or_stops_early c = examples.or_stops_early

pub returns-clause-or_goes_on : goal.returns-clause-or_goes_on
returns-clause-or_goes_on c = examples.or_goes_on
