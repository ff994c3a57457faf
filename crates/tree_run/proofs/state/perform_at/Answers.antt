use Rattle.tree_run.specs.Deeds.{act_frames}
use Rattle.tree_run.proofs.Stacks.{on_ok, on_err}
use Rattle.tree_run.proofs.Moving.{stacks_go, stacks_stay}
use Rattle.tree_run.proofs.state.perform_at.Goals as goal

pub returns-clause-ok : goal.returns-clause-ok
returns-clause-ok c =
    on_ok c.perform.result
    (λ acts. stacks_go (act_frames c.args.act c.args.unit.now c.args.started) c.args.threads.now.items c.args.place c.index_mut.result.now c.perform.new.frames c.requires.there c.index_mut.ensures.value acts)
    c.perform.ensures.ok

pub returns-clause-err : goal.returns-clause-err
returns-clause-err c =
    on_err c.perform.result
    (λ same. stacks_stay c.args.threads.now.items c.args.place c.index_mut.result.now c.perform.new.frames c.index_mut.ensures.value same)
    c.perform.ensures.err
