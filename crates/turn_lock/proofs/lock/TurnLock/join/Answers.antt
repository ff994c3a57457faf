use Rattle.std.proofs.Common.{rules, arith, false, ◌≡◌, ◌∙◌, ap, subst, length}
use Rattle.turn_lock.specs.Lists.{longer, merged}
use Rattle.turn_lock.specs.Turn.{has_turn, joined, Joined}
use Rattle.turn_lock.specs.Kinds.{OwnsSubjects}
use Rattle.turn_lock.proofs.Passes.{joins, learns}
use Rattle.turn_lock.proofs.Prefixes.{length-longer}
use Rattle.turn_lock.proofs.Sound.{outside, sound_joined}
use Rattle.turn_lock.proofs.lock.TurnLock.join.Goals as goal

pub join_seat-requires : goal.join_seat-requires
join_seat-requires g c =
    let p = outside c.pass.inside.seat.me.0.place c.pass.inside.seat.me.1 c.pass.invariant.holds (ap (λ k. k.turn) c.pass.view_is ∙ c.requires.outside.0) in
    let o = outside c.other.inside.seat.me.0.place c.other.inside.seat.me.1 c.other.invariant.holds (ap (λ k. k.turn) c.other.view_is ∙ c.requires.outside.1) in
    (search rules, search rules, o.1, search rules, joins g.B.Logged.kind g.B.Logged.log g.B.Logged.terms_of _ _ _ c.pass.inside.seat.me.0 c.other.inside.seat.me.0 p.0 o.0)

pub load-pass-inside-requires : goal.load-pass-inside-requires
load-pass-inside-requires g c = (search rules, search rules, learns g.B.Logged.kind g.B.Logged.log g.B.Logged.terms_of _ _ _ _)

pub invariant_of-pass : goal.invariant_of-pass
invariant_of-pass g c =
    let v = c.pass.inside.seat.me.0 in
    let w = c.other.inside.seat.me.0 in
    let z = c.pass.inside.seat.table_id in
    let l = c.load-pass-inside.ensures.2 in
    let olds = subst (λ m. Joined m.0.first m.0.second m.0.seen) c.join_seat.ensures.2 l.olds in
    let own : OwnsSubjects g.B.Logged.kind (longer v.seen w.seen) (merged v.mine w.mine) = subst (λ m. OwnsSubjects g.B.Logged.kind m.0.seen m.0.mine) c.join_seat.ensures.2 l.subjects in
    let e : c.load-pass-inside.new.seat.me.0 ≡ joined v w = ap (λ m. m.0) (l.same ∙ c.join_seat.ensures.2) in
    let off : has_turn v.place ≡ false = ap (λ k. k.turn) c.pass.view_is ∙ c.requires.outside.0 in
    let count : c.max-pass-inside.result ≡ length (longer v.seen w.seen) = omega (arith, c.max-pass-inside.ensures, c.pass.invariant.counted, c.other.invariant.counted, length-longer v.seen w.seen) in record {
      counted = rw e count;
      holds = search rules;
      sound = rw e (sound_joined g.B.Logged.kind z _ c.other.inside.seat.table_id v w off olds.apart own c.pass.invariant.sound c.other.invariant.sound);
    }

pub returns-clause-apart : goal.returns-clause-apart
returns-clause-apart g c = let olds = subst (λ m. Joined m.0.first m.0.second m.0.seen) c.join_seat.ensures.2 c.load-pass-inside.ensures.2.olds in rw (← c.pass.view_is, ← c.other.view_is) olds.apart

pub returns-clause-sound : goal.returns-clause-sound
returns-clause-sound g c = (invariant_of-pass g c).sound
