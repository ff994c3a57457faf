use Rattle.std.proofs.Common.{rules, ◌≡◌, ◌<◌, length}
use Rattle.tree_run.proofs.Stacks.{stack_stays}
use Rattle.tree_run.proofs.stack.settle_top.Goals as goal

pub returns-clause-same : goal.returns-clause-same
returns-clause-same c =
    let size : c.len-top.result ≡ length c.args.frames.now.items = search rules in
    let some : 0 < c.len-top.result = search rules in
    stack_stays c.args.frames.now.items c.len-top.result c.index_mut.result.now c.settle.new.self size some c.index_mut.ensures.value c.settle.ensures.same
