use Rattle.std.proofs.Common.{Option, IsSomeAnd, IfSome, int_rem, subst, sym}
use Rattle.interval_dom.specs.Bounds.{Bounds, Describes, Covers}
use Rattle.interval_dom.specs.Ranges.{full}
use Rattle.interval_dom.proofs.Dividing.{IsSomeAnd-remainders, Covers-remainders, wrapped-int_rem}
use Rattle.interval_dom.proofs.interval.Interval.rem.Goals as goal

pub returns-clause-bounds : goal.returns-clause-bounds
returns-clause-bounds c x y left right other =
    subst (λ (o : Option Bounds). IsSomeAnd o (λ i. Describes i (int_rem x y))) (sym c.remainder_range.ensures) (IsSomeAnd-remainders c.args.self c.args.other x y left right other)

pub returns-clause-wrapped : goal.returns-clause-wrapped
returns-clause-wrapped c x y left right other within = wrapped-int_rem c.args.w x y within

pub returns-clause-of_width : goal.returns-clause-of_width
returns-clause-of_width c within =
    subst (λ (o : Option Bounds). IfSome o (λ i. Covers (full c.args.w) i)) (sym c.remainder_range.ensures) (Covers-remainders c.args.w c.args.self c.args.other within)
