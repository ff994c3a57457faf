use Rattle.global_restart.proofs.Whole.{two_added}
use Rattle.global_restart.proofs.carrying.dirty_with.Goals as goal

pub returns-clause-members : goal.returns-clause-members
returns-clause-members c = λ q.
    two_added q c.args.lost.now c.args.lacking.now c.new-dirty.result c.add.new.self c.add-2.new.self c.new-dirty.ensures (c.in_ok-add.ensures.ok q) (c.in_ok-add-2.ensures.ok q)
