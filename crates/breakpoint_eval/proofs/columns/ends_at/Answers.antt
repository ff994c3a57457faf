use Rattle.breakpoint_eval.specs.Columns.{high_at, low_at}
use Rattle.breakpoint_eval.proofs.Filling.{ordered_all, ordered_more, pushed}
use mir.Val.{SFits}
use Rattle.std.proofs.Common.{◌≡◌, ◌∙◌, ◌++◌, ◌∷◌, [], ℤ, ap, rules, w64}
use Rattle.std.proofs.lemmas.Int.{to_z-of_z}
use Rattle.interval_dom.specs.Bounds.{Bounds}
use Rattle.breakpoint_eval.proofs.columns.ends_at.Goals as goal

pub loop-v-preserved : goal.loop-v-preserved
loop-v-preserved c =
    let t = c.args.table.now in
    let slot = c.args.slot in
    let vs = c.args.vertices.now in
    let i = c.loop-v.v-index in
    let v = c.v-item.result in
    let b = c.slot_at-interval.result in
    let low : SFits w64 c.lo.result = search rules in
    let high : SFits w64 c.hi.result = search rules in
    let lows : c.push.new.self.items ≡ c.loop-v.lo.items ++ c.lo.result ∷ [] = c.in_ok-push.ensures.items ∙ ap (λ (z : ℤ). c.loop-v.lo.items ++ z ∷ []) (to_z-of_z w64 c.lo.result low) in
    let highs : c.push-in-loop-v.new.self.items ≡ c.loop-v.hi.items ++ c.hi.result ∷ [] = c.in_ok-push-2.ensures.items ∙ ap (λ (z : ℤ). c.loop-v.hi.items ++ z ∷ []) (to_z-of_z w64 c.hi.result high) in
    record {
      lo = pushed (low_at t slot) vs i v c.loop-v.lo.items c.push.new.self.items c.lo.result c.loop-v-test.true c.v-item.is (c.lo.ensures.value ∙ ap (λ (x : Bounds). x.lo) c.slot_at-interval.ensures) lows c.loop-v.invariant.lo;
      hi = pushed (high_at t slot) vs i v c.loop-v.hi.items c.push-in-loop-v.new.self.items c.hi.result c.loop-v-test.true c.v-item.is (c.hi.ensures.value ∙ ap (λ (x : Bounds). x.hi) c.slot_at-interval.ensures) highs c.loop-v.invariant.hi;
      ordered = ordered_more t slot vs i v b c.v-item.is c.slot_at-interval.ensures c.lo.ensures.ordered c.loop-v.invariant.ordered;
    }

pub returns-clause-ordered : goal.returns-clause-ordered
returns-clause-ordered c = ordered_all c.args.table.now c.args.slot c.args.vertices.now c.loop-v.v-index c.loop-v-test.false c.loop-v.invariant.ordered
