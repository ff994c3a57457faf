use Rattle.std.proofs.Common.{◌≡◌, arith, ap₂, ◌∙◌, FitsSigned, rules}
use Rattle.std.specs.Int.{int_min, int_max, w128}
use Rattle.std.proofs.lemmas.Int.{ints, clamps, to_z-of_z}
use Rattle.interval_dom.specs.Bounds.{between}
use Rattle.interval_dom.proofs.interval.wide.Wide.of_four.Goals as goal

pub invariant_of-result : goal.invariant_of-result
invariant_of-result c = omega (arith, ints, clamps)

pub returns : goal.returns
returns c =
    let p : FitsSigned w128 c.args.p = c.ranges.p in
    let q : FitsSigned w128 c.args.q = c.ranges.q in
    let r : FitsSigned w128 c.args.r = c.ranges.r in
    let s : FitsSigned w128 c.args.s = c.ranges.s in
    let least : FitsSigned w128 c.min.result = search rules in
    let least' : FitsSigned w128 c.min-2.result = search rules in
    let least'' : FitsSigned w128 c.min-3.result = search rules in
    let most : FitsSigned w128 c.max.result = search rules in
    let most' : FitsSigned w128 c.max-2.result = search rules in
    let most'' : FitsSigned w128 c.max-3.result = search rules in
    let low : c.min-3.result ≡ int_min (int_min c.args.p c.args.q) (int_min c.args.r c.args.s) =
    (simp to_z-of_z at c.min-3.ensures.value) ∙ ap₂ int_min (simp to_z-of_z at c.min.ensures.value) (simp to_z-of_z at c.min-2.ensures.value) in
    let high : c.max-3.result ≡ int_max (int_max c.args.p c.args.q) (int_max c.args.r c.args.s) =
    (simp to_z-of_z at c.max-3.ensures.value) ∙ ap₂ int_max (simp to_z-of_z at c.max.ensures.value) (simp to_z-of_z at c.max-2.ensures.value) in
    ap₂ between (to_z-of_z w128 c.min-3.result least'' ∙ low) (to_z-of_z w128 c.max-3.result most'' ∙ high)
