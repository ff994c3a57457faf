use Rattle.std.proofs.Common.{rules, ◌≡◌, ◌∙◌, sym, ap, ℕ, List, ◌∷◌, ◌+◌, ◌<◌, ◌≤◌, false, length, take}
use Rattle.std.specs.Prelude.{nat_eq, slice_index_or}
use Rattle.run_lines.specs.Schedule.{lines_of}
use Rattle.run_lines.proofs.Cutting.{lacks_more, lacks_whole, line_at, rest_whole, whole_line}
use Rattle.run_lines.proofs.schedule.first_line.Goals as goal

pub returns-then-byte-eq10-clause-lines : goal.returns-then-byte-eq10-clause-lines
returns-then-byte-eq10-clause-lines c =
    let within : c.loop-i.i < length c.args.text.now = search rules in
    let newline : slice_index_or c.args.text.now c.loop-i.i 0 ≡ 10 = search rules in
    line_at c.args.text.now c.loop-i.i 0 within newline c.loop-i.invariant
    ∙ ap (λ (l : List ℕ). take c.loop-i.i c.args.text.now ∷ lines_of l) (sym (rest_whole c.args.text.now (c.loop-i.i + 1)))

pub loop-i-preserved : goal.loop-i-preserved
loop-i-preserved c =
    let within : c.loop-i.i < length c.args.text.now = search rules in
    let other : nat_eq (slice_index_or c.args.text.now c.loop-i.i 0) 10 ≡ false = search rules in
    lacks_more 10 c.args.text.now c.loop-i.i 0 within c.loop-i.invariant other

pub returns-clause-lines : goal.returns-clause-lines
returns-clause-lines c =
    let past : length c.args.text.now ≤ c.loop-i.i = search rules in
    let lacks = lacks_whole 10 c.args.text.now c.loop-i.i past c.loop-i.invariant in
    whole_line c.args.text.now (search rules) lacks
