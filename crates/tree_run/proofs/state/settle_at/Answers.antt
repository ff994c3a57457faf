use Rattle.tree_run.proofs.Moving.{stacks_stay}
use Rattle.tree_run.proofs.state.settle_at.Goals as goal

pub returns-clause-same : goal.returns-clause-same
returns-clause-same c = stacks_stay c.args.threads.now.items c.args.place c.index_mut.result.now c.settle_top.new.frames c.index_mut.ensures.value c.settle_top.ensures.same
