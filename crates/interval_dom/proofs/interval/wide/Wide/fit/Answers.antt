use Rattle.std.proofs.Common.{◌≡◌, ◌≤ℤ◌, arith, ap, ap₂, sym, subst, ◌∙◌, w64, FitsSigned}
use Rattle.std.proofs.lemmas.Int.{ints}
use Rattle.interval_dom.specs.Bounds.{Bounds, between, Covers}
use Rattle.interval_dom.specs.Ranges.{least, greatest, full}
use Rattle.interval_dom.proofs.Fitting.{fitted-covered, Covers-fitted, FitsSigned-of_width}
use Rattle.interval_dom.proofs.interval.wide.Wide.fit.Goals as goal

pub returns-then-self-from-clause-value : goal.returns-then-self-from-clause-value
returns-then-self-from-clause-value c =
    let low : c.all.inside.lo ≡ least c.args.w = ap (λ (b : Bounds). b.lo) (c.all.view_is ∙ c.full-all.ensures) in
    let high : c.all.inside.hi ≡ greatest c.args.w = ap (λ (b : Bounds). b.hi) (c.all.view_is ∙ c.full-all.ensures) in
    let first : least c.args.w ≤ℤ c.self.inside.lo = grind (arith, ints) in
    let last : c.self.inside.hi ≤ℤ greatest c.args.w = grind (arith, ints) in
    let low_fits : FitsSigned w64 c.self.inside.lo = FitsSigned-of_width c.args.w c.self.inside.lo (first, omega (arith, ints)) in
    let high_fits : FitsSigned w64 c.self.inside.hi = FitsSigned-of_width c.args.w c.self.inside.hi (omega (arith, ints), last) in
    rw (← c.self.view_is) (ap₂ between (omega (arith, ints)) (omega (arith, ints)) ∙ sym (fitted-covered c.args.w c.self.inside.lo c.self.inside.hi first last))

pub returns-then-self-from-clause-of_width : goal.returns-then-self-from-clause-of_width
returns-then-self-from-clause-of_width c =
    subst (λ (b : Bounds). Covers (full c.args.w) b) (sym (returns-then-self-from-clause-value c)) (Covers-fitted c.args.w c.args.self)
