use Rattle.std.proofs.Common.{◌≡◌, ◌≢◌, ℤ, arith, ap, ap₂, sym, ◌∙◌, to_z, of_z, w64, FitsSigned, rules}
use Rattle.std.proofs.lemmas.Int.{ints, to_z-of_z}
use Rattle.interval_dom.specs.Bounds.{between, unless_empty}
use Rattle.interval_dom.proofs.Comparing.{past_low-dropped, past_low-kept, past_high-dropped, past_high-kept}
use Rattle.interval_dom.proofs.interval.comparison.without_end.Goals as goal

same_number : (x y : ℤ) → FitsSigned w64 x → FitsSigned w64 y → of_z w64 x ≡ of_z w64 y → x ≡ y
same_number x y p q e = sym (to_z-of_z w64 x p) ∙ ap (to_z w64) e ∙ to_z-of_z w64 y q

pub returns-in-true-false : goal.returns-in-true-false
returns-in-true-false c =
    let n_fits : FitsSigned w64 c.args.n = c.ranges.n in
    let low_fits : FitsSigned w64 c.kept.inside.lo = search rules in
    let high_fits : FitsSigned w64 c.kept.inside.hi = search rules in
    let low : c.kept.inside.lo ≡ c.args.n = same_number _ _ low_fits n_fits c.in-true-false.is-0 in
    let high : c.kept.inside.hi ≢ c.args.n = λ e. c.in-true-false.is-1 (ap (of_z w64) e) in
    rw (← c.kept.view_is, past_low-dropped c.kept.inside.lo c.args.n low, past_high-kept c.kept.inside.hi c.args.n high)
    (c.new.ensures.value ∙ ap unless_empty (ap₂ between (omega (arith, ints)) (to_z-of_z w64 c.kept.inside.hi high_fits)))

pub returns-in-false-true : goal.returns-in-false-true
returns-in-false-true c =
    let n_fits : FitsSigned w64 c.args.n = c.ranges.n in
    let low_fits : FitsSigned w64 c.kept.inside.lo = search rules in
    let high_fits : FitsSigned w64 c.kept.inside.hi = search rules in
    let low : c.kept.inside.lo ≢ c.args.n = λ e. c.in-false-true.is-0 (ap (of_z w64) e) in
    let high : c.kept.inside.hi ≡ c.args.n = same_number _ _ high_fits n_fits c.in-false-true.is-1 in
    rw (← c.kept.view_is, past_low-kept c.kept.inside.lo c.args.n low, past_high-dropped c.kept.inside.hi c.args.n high)
    (c.new-in-false-true.ensures.value ∙ ap unless_empty (ap₂ between (to_z-of_z w64 c.kept.inside.lo low_fits) (omega (arith, ints))))
