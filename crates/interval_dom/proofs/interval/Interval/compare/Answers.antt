use Rattle.std.proofs.Common.{pos, subst, sym}
use Rattle.interval_dom.specs.Bounds.{Bounds, Describes}
use Rattle.interval_dom.proofs.Comparing.{comparison-all, comparison-none, comparison-holds, comparison-fails}
use Rattle.interval_dom.proofs.interval.Interval.compare.Goals as goal

pub returns-clause-all : goal.returns-clause-all
returns-clause-all c = rw c.compared.ensures.value (comparison-all c.args.op c.args.self c.args.other c.compared.ensures.left c.compared.ensures.right)

pub returns-clause-none : goal.returns-clause-none
returns-clause-none c = rw c.compared.ensures.value (comparison-none c.args.op c.args.self c.args.other c.compared.ensures.left c.compared.ensures.right)

pub returns-clause-holds : goal.returns-clause-holds
returns-clause-holds c x y left right holds =
    subst (λ (b : Bounds). Describes b (pos 1)) (sym c.compared.ensures.value) (comparison-holds c.args.op c.args.self c.args.other x y left right holds)

pub returns-clause-fails : goal.returns-clause-fails
returns-clause-fails c x y left right fails =
    subst (λ (b : Bounds). Describes b (pos 0)) (sym c.compared.ensures.value) (comparison-fails c.args.op c.args.self c.args.other x y left right fails)
