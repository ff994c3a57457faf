use Rattle.std.proofs.Common.{Option, IsSomeAnd, IfSome, subst, sym}
use Rattle.interval_dom.specs.Bounds.{Bounds, Describes, Covers}
use Rattle.interval_dom.proofs.Comparing.{refined-keeps, refined-within}
use Rattle.interval_dom.proofs.interval.Interval.refine.Goals as goal

pub returns-clause-keeps : goal.returns-clause-keeps
returns-clause-keeps c x y left right holds =
    subst (λ (o : Option Bounds). IsSomeAnd o (λ i. Describes i x)) (sym c.cut.ensures) (refined-keeps c.args.op c.args.self c.args.other x y left right holds)

pub returns-clause-within : goal.returns-clause-within
returns-clause-within c =
    subst (λ (o : Option Bounds). IfSome o (λ i. Covers c.args.self i)) (sym c.cut.ensures) (refined-within c.args.op c.args.self c.args.other)
