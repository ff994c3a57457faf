use Rattle.std.proofs.Common.{rules, ◌≡◌, ◌∙◌, Some}
use Rattle.c_meaning.specs.Config.{thread_at}
use Rattle.tree_run.specs.Deeds.{stack_of}
use Rattle.tree_run.specs.Going.{config_of, stacks_of}
use Rattle.tree_run.proofs.Finding.{frame_shown}
use Rattle.tree_run.proofs.state.State.frame.Goals as goal

pub returns-in-Some : goal.returns-in-Some
returns-in-Some c =
    let there : Some (stack_of c.in-Some.frames.now) ≡ thread_at (stacks_of c.args.self.now.threads.items) c.args.thread = search rules in
    c.view_at.ensures ∙ frame_shown (config_of c.args.self.now) c.args.thread c.args.i c.in-Some.frames.now there
