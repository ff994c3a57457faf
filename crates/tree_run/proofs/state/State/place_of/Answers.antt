use Rattle.std.proofs.Common.{rules, ◌≡◌, inl, inr, ◌<◌, true, false, length, None, Some}
use Rattle.c_meaning.specs.Config.{thread_at}
use Rattle.c_meaning.specs.Tree.{has_ended}
use Rattle.tree_run.specs.Deeds.{stack_of}
use Rattle.tree_run.specs.Going.{config_of, stacks_of}
use Rattle.tree_run.proofs.Finding.{stops_without, stops_ended, goes_on}
use Rattle.tree_run.proofs.state.State.place_of.Goals as goal
use Rattle.tree_run.proofs.state.State.place_of.Goals.{then-is_empty-via-then-is_empty, then-is_empty-via-else-is_empty+then-has_ended_in}

pub returns-in-None : goal.returns-in-None
returns-in-None c =
    let none : None ≡ thread_at (stacks_of c.args.self.now.threads.items) c.args.thread = search rules in
    stops_without c.args.self.now c.args.thread none

pub returns-then-is_empty : goal.returns-then-is_empty
returns-then-is_empty c =
    let there : Some (stack_of c.in-Some.frames.now) ≡ thread_at (stacks_of c.args.self.now.threads.items) c.args.thread = search rules in
    elim c.then-is_empty.branch [
      | then-is_empty-via-then-is_empty w ↦
          let empty : length c.in-Some.frames.now ≡ 0 = search rules in
          stops_ended c.args.self.now c.args.thread c.in-Some.frames.now there (inl empty)
      | then-is_empty-via-else-is_empty+then-has_ended_in w ↦
          let ended : has_ended (config_of c.args.self.now) 1 ≡ true = search rules in
          stops_ended c.args.self.now c.args.thread c.in-Some.frames.now there (inr ended)
    ]

pub returns-else-has_ended_in : goal.returns-else-has_ended_in
returns-else-has_ended_in c =
    let some : 0 < c.args.thread = search rules in
    let there : Some (stack_of c.in-Some.frames.now) ≡ thread_at (stacks_of c.args.self.now.threads.items) c.args.thread = search rules in
    let begun : 0 < length c.in-Some.frames.now = search rules in
    let goes : has_ended (config_of c.args.self.now) 1 ≡ false = search rules in
    goes_on c.args.self.now c.args.thread c.in-Some.frames.now some there begun goes
