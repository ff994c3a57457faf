use Rattle.c_meaning.proofs.GraphExampleProofs as examples
use Rattle.c_meaning.proofs.examples.graphs_by_hand.Goals as goal

pub returns-clause-counting : goal.returns-clause-counting
returns-clause-counting c = examples.counting_graph

pub returns-clause-two_reads : goal.returns-clause-two_reads
returns-clause-two_reads c = examples.two_reads

pub returns-clause-and_with_input : goal.returns-clause-and_with_input
returns-clause-and_with_input c = examples.and_with_input

pub returns-clause-bare_for_and_do : goal.returns-clause-bare_for_and_do
returns-clause-bare_for_and_do c = examples.bare_for_and_do

pub returns-clause-call_in_expression : goal.returns-clause-call_in_expression
returns-clause-call_in_expression c = examples.call_in_expression

pub returns-clause-or_with_input : goal.returns-clause-or_with_input
returns-clause-or_with_input c = examples.or_with_input

pub returns-clause-whole_for : goal.returns-clause-whole_for
returns-clause-whole_for c = examples.whole_for

pub returns-clause-actions : goal.returns-clause-actions
returns-clause-actions c = examples.actions

pub returns-clause-two_widths : goal.returns-clause-two_widths
returns-clause-two_widths c = examples.two_widths
