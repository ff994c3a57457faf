use Rattle.std.proofs.Common.{rules, ◌≡◌, sym, ◌∙◌, ◌<◌}
use Rattle.tree_run.proofs.Ending.{ended_is}
use Rattle.tree_run.proofs.deed.has_ended_in.Goals as goal

pub returns : goal.returns
returns c =
    let some : 0 < c.args.thread = search rules in
    c.is_empty_at.ensures ∙ sym (ended_is (λ v. v.items) c.args.threads.now c.args.thread some)
