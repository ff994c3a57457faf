use Rattle.check_by_hand.proofs.Worked as worked
use Rattle.check_by_hand.proofs.examples.checks_by_hand.Goals as goal

pub returns-clause-bodies : goal.returns-clause-bodies
returns-clause-bodies c = worked.bodies

pub returns-clause-items : goal.returns-clause-items
returns-clause-items c = worked.lists

pub returns-clause-becomes : goal.returns-clause-becomes
returns-clause-becomes c = worked.becomes
