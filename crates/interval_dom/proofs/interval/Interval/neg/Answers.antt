use Rattle.std.proofs.Common.{◌≡◌, neg_ℤ, sym, subst, rules}
use Rattle.interval_dom.specs.Bounds.{Bounds, Describes}
use Rattle.interval_dom.specs.Ranges.{fitted, opposites, wrapped}
use Rattle.interval_dom.proofs.Fitting.{Describes-fitted, Describes-opposites}
use Rattle.interval_dom.proofs.interval.Interval.neg.Goals as goal

pub returns-clause-bounds : goal.returns-clause-bounds
returns-clause-bounds c x within =
    let value : c.fit.result ≡ fitted c.args.w (opposites c.args.self) = search rules in
    subst (λ (b : Bounds). Describes b (wrapped c.args.w (neg_ℤ x))) (sym value) (Describes-fitted c.args.w (opposites c.args.self) (neg_ℤ x) (Describes-opposites c.args.self x within))
