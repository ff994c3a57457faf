use Rattle.std.proofs.Common.{rules, ◌≡◌, ◌<◌, length}
use Rattle.c_meaning.specs.Tree as Tree
use Rattle.c_meaning.specs.Tree.{frame_after}
use Rattle.tree_run.specs.Deeds.{after_way}
use Rattle.tree_run.proofs.Stacks.{stack_goes, stack_stays, on_ok, on_err}
use Rattle.tree_run.proofs.stack.finish.Goals as goal

pub returns-clause-ok : goal.returns-clause-ok
returns-clause-ok c =
    let size : c.len-top.result ≡ length c.args.frames.now.items = search rules in
    let some : 0 < c.len-top.result = search rules in
    on_ok c.finish.result
    (λ new. stack_goes (λ (f : Tree.Frame). frame_after f (after_way c.args.way f.todo)) c.args.frames.now.items c.len-top.result c.index_mut.result.now c.finish.new.self size some c.index_mut.ensures.value new)
    c.finish.ensures.ok

pub returns-clause-err : goal.returns-clause-err
returns-clause-err c =
    let size : c.len-top.result ≡ length c.args.frames.now.items = search rules in
    let some : 0 < c.len-top.result = search rules in
    on_err c.finish.result
    (λ new. stack_stays c.args.frames.now.items c.len-top.result c.index_mut.result.now c.finish.new.self size some c.index_mut.ensures.value new)
    c.finish.ensures.err
