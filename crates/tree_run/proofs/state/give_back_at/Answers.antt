use Rattle.std.specs.Prelude.{pos, List}
use Rattle.c_meaning.specs.Tree as Tree
use Rattle.c_meaning.specs.Tree.{frames_after_return}
use Rattle.tree_run.proofs.Stacks.{on_ok, on_err}
use Rattle.tree_run.proofs.Moving.{stacks_go, stacks_stay}
use Rattle.tree_run.proofs.state.give_back_at.Goals as goal

pub returns-clause-ok : goal.returns-clause-ok
returns-clause-ok c =
    on_ok c.give_back.result
    (λ acts. stacks_go (λ (frame : Tree.Frame) (below : List Tree.Frame). frames_after_return c.args.unit.now below (pos 0)) c.args.threads.now.items c.args.place c.index_mut.result.now c.give_back.new.frames c.requires.there c.index_mut.ensures.value acts)
    c.give_back.ensures.ok

pub returns-clause-err : goal.returns-clause-err
returns-clause-err c =
    on_err c.give_back.result
    (λ same. stacks_stay c.args.threads.now.items c.args.place c.index_mut.result.now c.give_back.new.frames c.index_mut.ensures.value same)
    c.give_back.ensures.err
