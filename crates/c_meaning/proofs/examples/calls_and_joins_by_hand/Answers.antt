use Rattle.c_meaning.proofs.GraphStepExampleProofs as graphs
use Rattle.c_meaning.proofs.StepExampleProofs as examples
use Rattle.c_meaning.proofs.examples.calls_and_joins_by_hand.Goals as goal

pub returns-clause-parameters : goal.returns-clause-parameters
returns-clause-parameters c = examples.parameters

pub returns-clause-argument : goal.returns-clause-argument
returns-clause-argument c = examples.argument

pub returns-clause-before_join : goal.returns-clause-before_join
returns-clause-before_join c = examples.before_join

pub returns-clause-after_join : goal.returns-clause-after_join
returns-clause-after_join c = examples.after_join

pub returns-clause-graph : goal.returns-clause-graph
returns-clause-graph c = graphs.graph

pub returns-clause-graph_starts : goal.returns-clause-graph_starts
returns-clause-graph_starts c = graphs.starts

pub returns-clause-graph_waits : goal.returns-clause-graph_waits
returns-clause-graph_waits c = graphs.waits

pub returns-clause-graph_ends : goal.returns-clause-graph_ends
returns-clause-graph_ends c = graphs.ends

pub returns-clause-graph_joins : goal.returns-clause-graph_joins
returns-clause-graph_joins c = graphs.joins

pub returns-clause-graph_enters : goal.returns-clause-graph_enters
returns-clause-graph_enters c = graphs.enters
