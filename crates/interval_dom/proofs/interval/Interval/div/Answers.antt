use Rattle.std.proofs.Common.{◌≡◌, Option, Some, IsSomeAnd, option_map, int_div, subst, sym, rules}
use Rattle.interval_dom.specs.Bounds.{Bounds, Describes}
use Rattle.interval_dom.specs.Ranges.{fitted, wrapped}
use Rattle.interval_dom.specs.Quotients.{quotients}
use Rattle.interval_dom.proofs.Dividing.{IsSomeAnd-fitted_quotients}
use Rattle.interval_dom.proofs.interval.Interval.div.Goals as goal

pub returns-clause-bounds : goal.returns-clause-bounds
returns-clause-bounds c x y left right other =
    let value : Some c.fit.result ≡ option_map (fitted c.args.w) (quotients c.args.self c.args.other) = search rules in
    subst (λ (o : Option Bounds). IsSomeAnd o (λ i. Describes i (wrapped c.args.w (int_div x y)))) (sym value) (IsSomeAnd-fitted_quotients c.args.w c.args.self c.args.other x y left right other)
