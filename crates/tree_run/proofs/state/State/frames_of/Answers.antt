use Rattle.std.proofs.Common.{rules, ◌<◌}
use Rattle.tree_run.proofs.Finding.{thread_shown}
use Rattle.tree_run.proofs.state.State.frames_of.Goals as goal

pub returns : goal.returns
returns c =
    let some : 0 < c.args.thread = search rules in
    thread_shown (λ v. v.now) c.args.self.now.threads.items c.as_slice.result.now c.args.thread c.frames_at.result c.as_slice.ensures.value some c.frames_at.ensures
