use Rattle.lockset_dom.proofs.Membership.{Holds-no_locks}
use Rattle.lockset_dom.proofs.locks.Locks.empty.Goals as goal

pub returns-clause-members : goal.returns-clause-members
returns-clause-members c = Holds-no_locks
