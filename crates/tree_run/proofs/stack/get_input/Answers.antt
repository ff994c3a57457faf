use Rattle.std.proofs.Common.{rules, ◌≡◌, ◌∙◌, ap, ℤ, ◌<◌, length}
use Rattle.std.specs.Int.{w64}
use Rattle.std.proofs.Math.Facts.{to_z-of_z}
use Rattle.tree_run.specs.Framing.{shown}
use Rattle.c_meaning.specs.Tree as Tree
use Rattle.c_meaning.specs.Tree.{with_input}
use Rattle.tree_run.proofs.Stacks.{stack_goes, stack_stays, on_ok, on_err}
use Rattle.tree_run.proofs.stack.get_input.Goals as goal

pub returns-clause-ok : goal.returns-clause-ok
returns-clause-ok c =
    let size : c.len-top.result ≡ length c.args.frames.now.items = search rules in
    let some : 0 < c.len-top.result = search rules in
    on_ok c.get_input.result
    (λ new. stack_goes (λ (f : Tree.Frame). with_input f c.args.number) c.args.frames.now.items c.len-top.result c.index_mut.result.now c.get_input.new.self size some c.index_mut.ensures.value (new ∙ ap (λ (k : ℤ). with_input (shown c.index_mut.result.now) k) (to_z-of_z {w = w64} c.ranges.number)))
    c.get_input.ensures.ok

pub returns-clause-err : goal.returns-clause-err
returns-clause-err c =
    let size : c.len-top.result ≡ length c.args.frames.now.items = search rules in
    let some : 0 < c.len-top.result = search rules in
    on_err c.get_input.result
    (λ new. stack_stays c.args.frames.now.items c.len-top.result c.index_mut.result.now c.get_input.new.self size some c.index_mut.ensures.value new)
    c.get_input.ensures.err
