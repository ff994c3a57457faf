use Rattle.std.proofs.Common.{refl, arith, drop, length, ◌+◌}
use Rattle.std.proofs.lemmas.Option.{slice_get_read}
use Rattle.state_dom.specs.StateValue.{slots_of}
use Rattle.edition_core.specs.Printed.{slot_text, slots_text}
use Rattle.edition_core.proofs.Readings.{slots_text_next}
use Rattle.gob_tree.proofs.LabelReadings.{grown}
use Rattle.edition_core.proofs.printed.push_slots.Goals as goal

pub loop-i-preserved : goal.loop-i-preserved
loop-i-preserved c =
    let labels = c.args.labels.now in
    let slots = slots_of c.args.state.now in
    let i = c.loop-i.i in
    let label = c.index-labels-i.result in
    grown c.loop-i.out.items c.push_slot.new.out.items (slot_text label c.slot.result) (slots_text (drop i labels) (drop i slots)) (slots_text (drop (i + 1) labels) (drop (i + 1) slots)) _
    c.in_ok-push_slot.ensures
    (slots_text_next labels slots i label c.slot.result (slice_get_read labels (length labels) i label refl (omega arith) c.index-labels-i.is) c.slot.ensures)
    c.loop-i.invariant
