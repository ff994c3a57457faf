use Rattle.c_meaning.proofs.Evaluation.{expressions}
use Rattle.state_dom.specs.Evaluation.{interval_of, reading_of}
use Rattle.state_dom.proofs.StateExampleProofs as states
use Rattle.state_dom.proofs.examples.stores_by_hand.Goals as goal

pub returns-clause-any_long_sum : goal.returns-clause-any_long_sum
returns-clause-any_long_sum c = simp (expressions, interval_of, reading_of)

pub returns-clause-stored : goal.returns-clause-stored
returns-clause-stored c = states.stored

pub returns-clause-stored_as_it_is : goal.returns-clause-stored_as_it_is
returns-clause-stored_as_it_is c = states.stored_as_it_is
