use Rattle.constraint_sys.proofs.DirtySet.{member_put}
use Rattle.constraint_sys.proofs.dirty.put_in.Goals as goal

pub returns-clause-ok : goal.returns-clause-ok
returns-clause-ok c = λ q. member_put c.args.points.now c.insert.new.self c.args.u q c.in_ok-insert.ensures.updates
