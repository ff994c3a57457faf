use Rattle.graph_law.proofs.FormingExampleProofs as worked
use Rattle.graph_law.proofs.examples.widths_by_hand.Goals as goal

pub returns-clause-long_read_into_int : goal.returns-clause-long_read_into_int
returns-clause-long_read_into_int c = worked.long_read_into_int

pub returns-clause-int_read_into_long : goal.returns-clause-int_read_into_long
returns-clause-int_read_into_long c = worked.int_read_into_long

pub returns-clause-long_result_into_int : goal.returns-clause-long_result_into_int
returns-clause-long_result_into_int c = worked.long_result_into_int

pub returns-clause-no_function : goal.returns-clause-no_function
returns-clause-no_function c = worked.no_function
