use Rattle.std.proofs.Common.{◌≡◌, ◌+◌, ◌∙◌, List, length, take, sym, ap, arith}
use Rattle.std.specs.Prelude.{slice_set}
use Rattle.gob_tree.specs.declared.expr.Width.{Width}
use Rattle.interval_dom.specs.Bounds.{Bounds}
use Rattle.lockset_dom.specs.Members.{no_locks}
use Rattle.c_meaning.specs.Demand.{slot_width}
use Rattle.state_dom.specs.Operators.{converted_to}
use Rattle.state_dom.specs.StateValue.{Reached, room_of, slots_of, locks_of, start_of}
use Rattle.gob_tree.specs.declared.unit.Slot.{Slot}
use Rattle.constraint_sys.proofs.Calling.{frame_start, frame_step, length-frame}
use Rattle.constraint_sys.proofs.transfer.frame.Goals as goal

pub loop-i-init : goal.loop-i-init
loop-i-init c =
    let slots = c.args.callee.now.slots in
    c.in_ok-state.ensures ∙ ap start_of c.room.ensures ∙ ap (λ (l : List Bounds). Reached l no_locks) (sym (frame_start slots))

pub assign-requires-clause-in_range : goal.assign-requires-clause-in_range
assign-requires-clause-in_range c =
    let room : room_of c.loop-i.state ≡ length c.args.callee.now.slots = ap room_of c.loop-i.invariant ∙ length-frame c.args.callee.now.slots (take c.loop-i.i c.args.args.now) in
    omega (arith, room, c.loop-i-test.true, c.requires.args)

pub loop-i-preserved : goal.loop-i-preserved
loop-i-preserved c =
    let slots = c.args.callee.now.slots in
    let i = c.loop-i.i in
    let v = c.index-args-i.result in
    let width : c.slot_width.result ≡ slot_width slots (i + 1) = c.slot_width.ensures ∙ ap (λ (l : List Slot). slot_width l (i + 1)) c.as_slice-slots.ensures in
    let value : c.converted.result ≡ converted_to (slot_width slots (i + 1)) v = c.converted.ensures ∙ ap (λ (w : Width). converted_to w v) width in
    c.assign.ensures
    ∙ (λ k. Reached (slice_set (slots_of (c.loop-i.invariant k)) (i + 1) (value k)) (locks_of (c.loop-i.invariant k)))
    ∙ ap (λ (l : List Bounds). Reached l no_locks) (frame_step slots c.args.args.now i v c.loop-i-test.true c.index-args-i.is)
