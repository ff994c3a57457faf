use Rattle.std.proofs.Common.{rules, ◌≡◌, refl, ◌∙◌, ap}
use Rattle.turn_lock.specs.declared.view.Place.TheVariants.{Outside}
use Rattle.turn_lock.proofs.Steps.{looks, draws}
use Rattle.turn_lock.proofs.lock.TurnLock.draw.Goals as goal

pub load-next-requires : goal.load-next-requires
load-next-requires g c = (search rules, search rules, looks g.B.Logged.kind g.B.Logged.log g.B.Logged.terms_of _ _ _ _ _)

pub compare_exchange-requires : goal.compare_exchange-requires
compare_exchange-requires g c =
    let out : c.load-next.new.seat.me.0.place ≡ Outside = ap (λ m. m.0.place) (c.load-next.ensures.2 ∙ c.loop.invariant.2) ∙ c.requires.outside in
    (search rules, search rules, draws g.B.Logged.kind g.B.Logged.log g.B.Logged.terms_of _ _ _ _ _ _ out refl (search rules))
