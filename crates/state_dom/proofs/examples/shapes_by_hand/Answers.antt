use Rattle.state_dom.proofs.StateExampleProofs as states
use Rattle.state_dom.proofs.examples.shapes_by_hand.Goals as goal

pub returns-clause-in_width : goal.returns-clause-in_width
returns-clause-in_width c = states.in_width

pub returns-clause-in_wide_width : goal.returns-clause-in_wide_width
returns-clause-in_wide_width c = states.in_wide_width

pub returns-clause-out_of_width : goal.returns-clause-out_of_width
returns-clause-out_of_width c = states.out_of_width

pub returns-clause-slot_too_many : goal.returns-clause-slot_too_many
returns-clause-slot_too_many c = states.slot_too_many

pub returns-clause-other_room : goal.returns-clause-other_room
returns-clause-other_room c = states.room_of_another

pub returns-clause-narrower : goal.returns-clause-narrower
returns-clause-narrower c = states.narrower

pub returns-clause-not_wider : goal.returns-clause-not_wider
returns-clause-not_wider c = states.not_wider

pub returns-clause-not_other_mutexes : goal.returns-clause-not_other_mutexes
returns-clause-not_other_mutexes c = states.not_other_mutexes

pub returns-clause-not_from_bottom : goal.returns-clause-not_from_bottom
returns-clause-not_from_bottom c = states.not_from_bottom
