use Rattle.std.proofs.Common.{◌≡◌, ◌-ℤ◌, arith, ap, ap₂, sym, subst, ◌∙◌, w64, FitsSigned, rules}
use Rattle.std.proofs.lemmas.Int.{ints, to_z-of_z}
use Rattle.interval_dom.specs.Bounds.{Bounds, between, Describes}
use Rattle.interval_dom.specs.Ranges.{fitted, differences, wrapped}
use Rattle.interval_dom.proofs.Fitting.{Describes-fitted, Describes-differences}
use Rattle.interval_dom.proofs.interval.Interval.sub.Goals as goal

value : (c : goal.After-fit) → c.fit.result ≡ fitted c.args.w (differences c.args.self c.args.other)
value c =
    let self_low : FitsSigned w64 c.self.inside.lo = search rules in
    let self_high : FitsSigned w64 c.self.inside.hi = search rules in
    let other_low : FitsSigned w64 c.other.inside.lo = search rules in
    let other_high : FitsSigned w64 c.other.inside.hi = search rules in
    let low : c.difference.result ≡ c.args.self.lo -ℤ c.args.other.hi = rw (← c.self.view_is, ← c.other.view_is) (simp to_z-of_z at c.difference.ensures) in
    let high : c.difference-2.result ≡ c.args.self.hi -ℤ c.args.other.lo = rw (← c.self.view_is, ← c.other.view_is) (simp to_z-of_z at c.difference-2.ensures) in
    c.fit.ensures.value ∙ ap (fitted c.args.w) (c.new.ensures ∙ ap₂ between (omega (arith, ints)) (omega (arith, ints)))

pub returns-clause-value : goal.returns-clause-value
returns-clause-value c = value c

pub returns-clause-bounds : goal.returns-clause-bounds
returns-clause-bounds c x y left right =
    subst (λ (b : Bounds). Describes b (wrapped c.args.w (x -ℤ y))) (sym (value c)) (Describes-fitted c.args.w (differences c.args.self c.args.other) (x -ℤ y) (Describes-differences c.args.self c.args.other x y left right))
