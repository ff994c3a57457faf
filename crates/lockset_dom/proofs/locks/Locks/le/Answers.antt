use Rattle.lockset_dom.proofs.Membership.{Includes-test}
use Rattle.lockset_dom.proofs.locks.Locks.le.Goals as goal

pub returns : goal.returns
returns c = rw (c.self.view_is, c.other.view_is) (Includes-test c.args.self c.args.other)
