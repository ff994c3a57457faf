use Rattle.std.proofs.Common.{rules, ◌≡◌, ◌∙◌, ap}
use Rattle.turn_lock.specs.declared.view.Place.TheVariants.{Waiting}
use Rattle.turn_lock.proofs.Steps.{comes}
use Rattle.turn_lock.proofs.lock.TurnLock.wait.Goals as goal

pub load-serving-requires : goal.load-serving-requires
load-serving-requires g c =
    let waits : c.loop.seat.me.0.place ≡ Waiting c.args.ticket = ap (λ m. m.0.place) c.loop.invariant.2 ∙ c.requires.ticket in
    (search rules, search rules, comes g.B.Logged.kind g.B.Logged.log g.B.Logged.terms_of _ _ _ _ _ waits)
