use Rattle.state_dom.proofs.StateExampleProofs as states
use Rattle.state_dom.proofs.examples.descriptions_by_hand.Goals as goal

pub returns-clause-described : goal.returns-clause-described
returns-clause-described c = states.described

pub returns-clause-below : goal.returns-clause-below
returns-clause-below c = states.below

pub returns-clause-above : goal.returns-clause-above
returns-clause-above c = states.above

pub returns-clause-not_of_the_width : goal.returns-clause-not_of_the_width
returns-clause-not_of_the_width c = states.not_of_the_width

pub returns-clause-of_the_width : goal.returns-clause-of_the_width
returns-clause-of_the_width c = states.of_the_width

pub returns-clause-owned_by_another : goal.returns-clause-owned_by_another
returns-clause-owned_by_another c = states.owned_by_another

pub returns-clause-owned_by_nobody : goal.returns-clause-owned_by_nobody
returns-clause-owned_by_nobody c = states.owned_by_nobody

pub returns-clause-a_value_less : goal.returns-clause-a_value_less
returns-clause-a_value_less c = states.a_value_less

pub returns-clause-bottom : goal.returns-clause-bottom
returns-clause-bottom c = states.bottom
