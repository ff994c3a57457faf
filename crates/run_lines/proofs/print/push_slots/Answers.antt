use Rattle.std.proofs.Common.{rules, ◌≡◌, ◌++◌, ◌+◌, ◌<◌, drop, length}
use Rattle.std.specs.Prelude.{slice_index_or}
use Rattle.c_meaning.specs.Demand.{value_at}
use Rattle.run_lines.specs.Lines.{slot_text, slots_text}
use Rattle.run_lines.proofs.Printing.{line_more, next_slot}
use Rattle.run_lines.proofs.print.push_slots.Goals as goal

pub loop-x-preserved : goal.loop-x-preserved
loop-x-preserved c =
    let within : c.loop-x.x < length c.args.labels.now = search rules in
    let is : c.index-labels-x.result ≡ slice_index_or c.args.labels.now c.loop-x.x c.index-labels-x.result = search rules in
    let pushed : c.push_slot.new.out.items ≡ c.loop-x.out.items ++ slot_text c.index-labels-x.result (value_at c.args.values.now c.loop-x.x) = search rules in
    line_more c.loop-x.out.items c.push_slot.new.out.items (slot_text c.index-labels-x.result (value_at c.args.values.now c.loop-x.x)) (slots_text (c.loop-x.x + 1) (drop (c.loop-x.x + 1) c.args.labels.now) c.args.values.now) _ _
    pushed (next_slot c.args.labels.now c.args.values.now c.loop-x.x c.index-labels-x.result within is) c.loop-x.invariant
