use Rattle.std.proofs.Common.{rules, ap, ◌∙◌, ℤ, ◌<◌, ◌∷◌, length}
use Rattle.std.specs.Int.{w64}
use Rattle.std.proofs.Math.Facts.{to_z-of_z}
use Rattle.c_meaning.specs.Tree.{caller_after}
use Rattle.tree_run.proofs.Stacks.{returns_to}
use Rattle.tree_run.proofs.stack.give_back.Goals as goal

pub returns-clause-ok : goal.returns-clause-ok
returns-clause-ok c =
    let more : 1 < length c.args.frames.now.items = search rules in
    returns_to c.args.unit.now c.args.number c.args.frames.now.items c.resume_caller.new.frames.items c.leave-2.new.frames.items more
    (λ top caller below shows. c.in_ok-resume_caller.ensures.ok top caller below shows ∙ ap (λ (k : ℤ). top ∷ caller_after c.args.unit.now caller k ∷ below) (to_z-of_z {w = w64} c.ranges.number))
    c.leave-2.ensures
