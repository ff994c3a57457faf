use Rattle.lockset_dom.proofs.Membership.{Holds-shared_members}
use Rattle.lockset_dom.proofs.locks.Locks.meet.Goals as goal

pub returns-clause-members : goal.returns-clause-members
returns-clause-members c = rw (c.self.view_is, c.other.view_is) (λ k. Holds-shared_members c.args.self c.args.other k)
