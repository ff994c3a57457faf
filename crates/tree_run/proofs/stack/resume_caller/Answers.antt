use Rattle.std.proofs.Common.{rules, ◌≡◌, ◌∙◌, ap, ℤ, ◌-◌, ◌<◌, length}
use Rattle.std.specs.Int.{w64}
use Rattle.std.proofs.Math.Facts.{to_z-of_z}
use Rattle.c_meaning.specs.Tree as Tree
use Rattle.c_meaning.specs.Tree.{caller_after}
use Rattle.tree_run.specs.Framing.{shown}
use Rattle.tree_run.proofs.Stacks.{caller_goes, frame_stays, on_ok, on_err}
use Rattle.tree_run.proofs.stack.resume_caller.Goals as goal

pub returns-clause-ok : goal.returns-clause-ok
returns-clause-ok c =
    let size : c.len-place.result ≡ length c.args.frames.now.items = search rules in
    let more : 1 < c.len-place.result = search rules in
    on_ok c.resume.result
    (λ new. caller_goes (λ (f : Tree.Frame). caller_after c.args.unit.now f c.args.number) c.args.frames.now.items c.len-place.result c.index_mut.result.now c.resume.new.self size more c.index_mut.ensures.value
    (new ∙ ap (λ (k : ℤ). caller_after c.args.unit.now (shown c.index_mut.result.now) k) (to_z-of_z {w = w64} c.ranges.number)))
    c.resume.ensures.ok

pub returns-clause-err : goal.returns-clause-err
returns-clause-err c =
    on_err c.resume.result
    (λ new. frame_stays c.args.frames.now.items (c.len-place.result - 2) c.index_mut.result.now c.resume.new.self c.index_mut.ensures.value new)
    c.resume.ensures.err
