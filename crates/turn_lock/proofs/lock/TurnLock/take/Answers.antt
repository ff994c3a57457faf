use Rattle.std.proofs.Common.{rules, ◌≡◌, ◌∙◌, refl, ap, Some}
use Rattle.turn_lock.specs.declared.view.Place.TheVariants.{Waiting}
use Rattle.turn_lock.specs.Turn.{ticket_of, entered}
use Rattle.turn_lock.proofs.Sound.{Sound, sound_moved, sound_entered}
use Rattle.turn_lock.proofs.lock.TurnLock.take.Goals as goal

pub exchange-requires : goal.exchange-requires
exchange-requires g c = let t = c.wait.ensures.turn in (search rules, (Some t.0, rw t.1.me refl))

pub invariant_of-pass : goal.invariant_of-pass
invariant_of-pass g c =
    let t = c.wait.ensures.turn in
    let z = c.pass.inside.seat.table_id in
    let d = c.draw-ticket.new.seat.me.0 in
    let waits : Sound g.B.Logged.kind z z d = rw c.draw-ticket.ensures.ticket (sound_moved g.B.Logged.kind z z c.pass.inside.seat.me.0 (Waiting c.draw-ticket.result) refl c.pass.invariant.sound) in
    let e : c.exchange.new.seat.me.0 ≡ entered d (ticket_of d.place) (g.B.Logged.log t.0) = ap (λ m. m.0) c.exchange.ensures.3 ∙ ap (λ m. m.0) t.1.me in record {
      counted = search rules;
      holds = search rules;
      sound = rw e (sound_entered g.B.Logged.kind z _ d (ticket_of d.place) (g.B.Logged.log t.0) t.1.later t.1.subjects waits);
    }

pub returns-clause-sound : goal.returns-clause-sound
returns-clause-sound g c = (invariant_of-pass g c).sound
