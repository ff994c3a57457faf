use Rattle.std.proofs.Common.{rules, ◌≡◌, ◌∙◌, sym, ap, ℕ, List, ◌+◌, ◌<◌, ◌≤◌, false, length, take, Some}
use Rattle.std.specs.Prelude.{nat_eq, slice_index_or}
use Rattle.run_lines.proofs.Cutting.{lacks_more, lacks_whole, blank_at, rest_whole, no_blank}
use Rattle.run_lines.proofs.schedule.at_blank.Goals as goal

pub returns-then-byte-eq32 : goal.returns-then-byte-eq32
returns-then-byte-eq32 c =
    let within : c.loop-i.i < length c.args.line.now = search rules in
    let blank : slice_index_or c.args.line.now c.loop-i.i 0 ≡ 32 = search rules in
    ap (λ (l : List ℕ). Some (take c.loop-i.i c.args.line.now, l)) (rest_whole c.args.line.now (c.loop-i.i + 1))
    ∙ blank_at c.args.line.now c.loop-i.i 0 within blank c.loop-i.invariant

pub loop-i-preserved : goal.loop-i-preserved
loop-i-preserved c =
    let within : c.loop-i.i < length c.args.line.now = search rules in
    let other : nat_eq (slice_index_or c.args.line.now c.loop-i.i 0) 32 ≡ false = search rules in
    lacks_more 32 c.args.line.now c.loop-i.i 0 within c.loop-i.invariant other

pub returns : goal.returns
returns c =
    let past : length c.args.line.now ≤ c.loop-i.i = search rules in
    let lacks = lacks_whole 32 c.args.line.now c.loop-i.i past c.loop-i.invariant in
    sym (no_blank c.args.line.now lacks)
