use Rattle.std.proofs.Common.{rules, ◌≡◌, ap, arith}
use Rattle.turn_lock.specs.Turn.{informed}
use Rattle.turn_lock.proofs.Sound.{sound_informed}
use Rattle.turn_lock.proofs.lock.TurnLock.wait_for_more.Goals as goal

pub invariant_of-pass : goal.invariant_of-pass
invariant_of-pass g c =
    let v = c.pass.inside.seat.me.0 in
    let h = c.listen.ensures.heard in
    let z = c.pass.inside.seat.table_id in
    let e : c.listen.new.seat.me.0 ≡ informed v h.0 = ap (λ m. m.0) (h.2.more (omega (arith, h.1, c.pass.invariant.counted))) in record {
      counted = search rules;
      holds = search rules;
      sound = rw e (sound_informed g.B.Logged.kind z _ v h.0 h.2.inside c.pass.invariant.sound);
    }

pub returns-clause-sound : goal.returns-clause-sound
returns-clause-sound g c = (invariant_of-pass g c).sound
