use Rattle.std.proofs.Common.{◌≡◌, ◌*ℤ◌, ap, sym, subst, ◌∙◌, w64, FitsSigned, rules}
use Rattle.std.specs.Int.{w128}
use Rattle.std.proofs.lemmas.Int.{to_z-of_z}
use Rattle.interval_dom.specs.Bounds.{Bounds, Describes}
use Rattle.interval_dom.specs.Ranges.{fitted, extremes, products, wrapped}
use Rattle.interval_dom.proofs.Corners.{Describes-products}
use Rattle.interval_dom.proofs.Fitting.{Describes-fitted}
use Rattle.interval_dom.proofs.interval.Interval.mul.Goals as goal

value : (c : goal.After-fit) → c.fit.result ≡ fitted c.args.w (products c.args.self c.args.other)
value c =
    let self_low : FitsSigned w64 c.self.inside.lo = search rules in
    let self_high : FitsSigned w64 c.self.inside.hi = search rules in
    let other_low : FitsSigned w64 c.other.inside.lo = search rules in
    let other_high : FitsSigned w64 c.other.inside.hi = search rules in
    let first : FitsSigned w128 c.product.result = search rules in
    let second : FitsSigned w128 c.product-2.result = search rules in
    let third : FitsSigned w128 c.product-3.result = search rules in
    let fourth : FitsSigned w128 c.product-4.result = search rules in
    let low_low : c.product.result ≡ c.args.self.lo *ℤ c.args.other.lo = rw (← c.self.view_is, ← c.other.view_is) (simp to_z-of_z at c.product.ensures) in
    let low_high : c.product-2.result ≡ c.args.self.lo *ℤ c.args.other.hi = rw (← c.self.view_is, ← c.other.view_is) (simp to_z-of_z at c.product-2.ensures) in
    let high_low : c.product-3.result ≡ c.args.self.hi *ℤ c.args.other.lo = rw (← c.self.view_is, ← c.other.view_is) (simp to_z-of_z at c.product-3.ensures) in
    let high_high : c.product-4.result ≡ c.args.self.hi *ℤ c.args.other.hi = rw (← c.self.view_is, ← c.other.view_is) (simp to_z-of_z at c.product-4.ensures) in
    let four : c.of_four-products.result ≡ extremes c.product.result c.product-2.result c.product-3.result c.product-4.result = simp to_z-of_z at c.of_four-products.ensures in
    let same : c.of_four-products.result ≡ products c.args.self c.args.other = rw (← low_low, ← low_high, ← high_low, ← high_high) four in
    c.fit.ensures.value ∙ ap (fitted c.args.w) same

pub returns-clause-value : goal.returns-clause-value
returns-clause-value c = value c

pub returns-clause-bounds : goal.returns-clause-bounds
returns-clause-bounds c x y left right =
    subst (λ (b : Bounds). Describes b (wrapped c.args.w (x *ℤ y))) (sym (value c)) (Describes-fitted c.args.w (products c.args.self c.args.other) (x *ℤ y) (Describes-products c.args.self c.args.other x y left right))
