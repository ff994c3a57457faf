use Rattle.constraint_sys.proofs.DirtySet.{member_taken}
use Rattle.constraint_sys.proofs.dirty.take_out.Goals as goal

pub returns-clause-members : goal.returns-clause-members
returns-clause-members c = λ q. member_taken c.args.points.now c.remove.new.self c.args.u.now q c.remove.ensures.updates
