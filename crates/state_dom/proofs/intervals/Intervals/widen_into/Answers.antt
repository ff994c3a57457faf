use Rattle.std.proofs.Common.{◌<◌, List, length, arith, sym, ap, ◌∙◌, length-set}
use Rattle.std.proofs.lemmas.Option.{get_or_from_slice_get}
use Rattle.interval_dom.specs.Bounds.{Bounds}
use Rattle.interval_dom.specs.Marks.{widened}
use Rattle.state_dom.proofs.InPlace.{on_each-step, CoversEach-step, rest-step, same_read}
use Rattle.state_dom.proofs.intervals.Intervals.widen_into.Goals as goal

pub loop-i-preserved : goal.loop-i-preserved
loop-i-preserved c =
    let now = c.loop-i.self in
    let start = c.args.self.now in
    let other = c.args.other.now in
    let i = c.loop-i.i in
    let in_now : i < length now = omega arith in
    let in_start : i < length start = omega (arith, c.loop-i.invariant.sized) in
    let in_other : i < length other = omega arith in
    let x = c.get-here.result in
    let y = c.get-there.result in
    let x_is = sym (get_or_from_slice_get now i x x c.get-here.ensures) in
    let y_is = sym (get_or_from_slice_get other i y y c.get-there.ensures) in
    let start_is = same_read now start i x in_now in_start x_is c.loop-i.invariant.rest in
    record {
      sized = ap (λ (zs : List Bounds). length zs) c.set.ensures ∙ length-set now i c.widen.result ∙ c.loop-i.invariant.sized;
      value = rw (c.set.ensures) (on_each-step (λ x y. widened x y c.args.marks.now) now other _ i x y c.widen.result in_now in_other x_is y_is c.widen.ensures.value c.loop-i.invariant.value);
      rest = rw (c.set.ensures) (rest-step now start i x c.widen.result in_now in_start x_is c.loop-i.invariant.rest);
      old = rw (c.set.ensures) (CoversEach-step now start i x c.widen.result in_now in_start start_is c.widen.ensures.old c.loop-i.invariant.old);
      new = rw (c.set.ensures) (CoversEach-step now other i y c.widen.result in_now in_other y_is c.widen.ensures.new c.loop-i.invariant.new);
    }
