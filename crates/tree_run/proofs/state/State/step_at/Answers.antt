use Rattle.std.proofs.Common.{rules, ◌≡◌, sym, ap, ◌∙◌, subst, ℤ, ◌+◌, List, [], ◌∷◌}
use Rattle.std.specs.Prelude.{slice_index_or}
use Rattle.std.specs.Int.{w64}
use Rattle.std.proofs.Math.Facts.{to_z-of_z}
use Rattle.c_meaning.specs.Tree as Tree
use Rattle.tree_run.specs.Going.{config_of, stacks_of, stack_at}
use Rattle.tree_run.proofs.Moving.{stays_same}
use Rattle.tree_run.proofs.Does.{config, gives_back, does_same, DecidesIn}
use Rattle.tree_run.proofs.state.State.step_at.Goals as goal

pub returns-in_ok-give_back_at-in-None : goal.returns-in_ok-give_back_at-in-None
returns-in_ok-give_back_at-in-None c = λ frame below shows.
    gives_back c.args.unit.now c.args.self.now.globals.items c.args.self.now.owners.items c.args.self.now.threads.items c.settle_at.new.threads.items c.give_back_at.new.threads.items c.args.place c.args.thread c.args.input frame below
    c.requires.thread (search rules) c.settle_at.ensures.same (search rules) (search rules) shows

pub returns-in_ok-deed-in-Some : goal.returns-in_ok-deed-in-Some
returns-in_ok-deed-in-Some c = λ frame below shows.
    let mid = config c.args.self.now.globals.items c.args.self.now.owners.items (stacks_of c.settle_at.new.threads.items) in
    let at : stack_at c.settle_at.new.threads.items c.args.place ≡ frame ∷ below = ap (λ (l : List (List Tree.Frame)). slice_index_or l c.args.place []) c.settle_at.ensures.same ∙ shows in
    let decided = subst (λ (k : ℤ). DecidesIn c.args.unit.now mid c.args.thread k frame below c.in_ok-deed-in-Some.deed) (to_z-of_z {w = w64} c.ranges.input) (c.in_ok-deed-in-Some.ensures frame below at) in
    does_same c.args.unit.now c.args.input (config_of c.args.self.now) mid (config_of c.act.new.self) c.args.thread (c.args.place + 1) c.in_ok-deed-in-Some.deed frame below c.act.result
    (stays_same c.args.self.now.globals.items c.args.self.now.owners.items (stacks_of c.args.self.now.threads.items) (stacks_of c.settle_at.new.threads.items) c.settle_at.ensures.same)
    (sym c.requires.thread) decided (c.act.ensures c.args.input frame below at)
