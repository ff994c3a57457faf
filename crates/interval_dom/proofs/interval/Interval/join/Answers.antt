use Rattle.std.proofs.Common.{◌≡◌, arith, ap}
use Rattle.std.proofs.lemmas.Int.{ints, clamps}
use Rattle.interval_dom.specs.Bounds.{Bounds}
use Rattle.interval_dom.proofs.interval.Interval.join.Goals as goal

pub returns-clause-least : goal.returns-clause-least
returns-clause-least c outer (low, high) (low', high') =
    let self_low : c.self.inside.lo ≡ c.args.self.lo = ap (λ (b : Bounds). b.lo) c.self.view_is in
    let self_high : c.self.inside.hi ≡ c.args.self.hi = ap (λ (b : Bounds). b.hi) c.self.view_is in
    let other_low : c.other.inside.lo ≡ c.args.other.lo = ap (λ (b : Bounds). b.lo) c.other.view_is in
    let other_high : c.other.inside.hi ≡ c.args.other.hi = ap (λ (b : Bounds). b.hi) c.other.view_is in
    (omega (arith, ints, clamps), omega (arith, ints, clamps))
