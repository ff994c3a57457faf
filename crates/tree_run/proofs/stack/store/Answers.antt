use Rattle.std.proofs.Common.{rules, ◌≡◌, ◌∙◌, ap, ℤ, ◌<◌, length}
use Rattle.std.specs.Int.{w64}
use Rattle.std.proofs.Math.Facts.{to_z-of_z}
use Rattle.tree_run.specs.Framing.{shown}
use Rattle.c_meaning.specs.Tree as Tree
use Rattle.c_meaning.specs.Tree.{frame_after, rest_of, func_slots}
use Rattle.c_meaning.specs.Demand.{with_slot}
use Rattle.tree_run.proofs.Stacks.{stack_goes}
use Rattle.tree_run.proofs.stack.store.Goals as goal

pub returns : goal.returns
returns c =
    let size : c.len-top.result ≡ length c.args.frames.now.items = search rules in
    let some : 0 < c.len-top.result = search rules in
    stack_goes (λ (f : Tree.Frame). frame_after (record f { slots = with_slot (func_slots c.args.unit.now f.func) c.args.x c.args.number f.slots }) (rest_of f.todo)) c.args.frames.now.items c.len-top.result c.index_mut.result.now c.store.new.self size some c.index_mut.ensures.value
    (c.store.ensures ∙ ap (λ (k : ℤ). frame_after (record (shown c.index_mut.result.now) { slots = with_slot (func_slots c.args.unit.now (shown c.index_mut.result.now).func) c.args.x k (shown c.index_mut.result.now).slots }) (rest_of (shown c.index_mut.result.now).todo)) (to_z-of_z {w = w64} c.ranges.number))
