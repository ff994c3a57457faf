use Rattle.state_dom.proofs.StateExampleProofs as states
use Rattle.state_dom.proofs.examples.order_by_hand.Goals as goal

pub returns-clause-wider : goal.returns-clause-wider
returns-clause-wider c = states.wider

pub returns-clause-fewer_mutexes : goal.returns-clause-fewer_mutexes
returns-clause-fewer_mutexes c = states.fewer_mutexes

pub returns-clause-low_end : goal.returns-clause-low_end
returns-clause-low_end c = states.low_end

pub returns-clause-high_end : goal.returns-clause-high_end
returns-clause-high_end c = states.high_end

pub returns-clause-more_mutexes : goal.returns-clause-more_mutexes
returns-clause-more_mutexes c = states.more_mutexes

pub returns-clause-from_bottom : goal.returns-clause-from_bottom
returns-clause-from_bottom c = states.from_bottom

pub returns-clause-other_room : goal.returns-clause-other_room
returns-clause-other_room c = states.other_room
