use Rattle.std.proofs.Common.{rules, ◌≡◌, ◌∙◌, refl, sym, ap, subst, length, [], ◌∷◌, ◌++◌, Some}
use Rattle.turn_lock.specs.declared.view.Place.TheVariants.{Outside}
use Rattle.turn_lock.specs.Kinds.{OwnsSubjects}
use Rattle.turn_lock.specs.Known.{known_of, MayGive}
use Rattle.turn_lock.specs.Turn.{moved, grown}
use Rattle.turn_lock.proofs.Sound.{sound_moved, sound_given}
use Rattle.turn_lock.proofs.lock.TurnLock.give.Goals as goal

pub invariant_of-pass : goal.invariant_of-pass
invariant_of-pass g c = let v = c.pass.inside.seat.me.0 in
    let e : c.leave.new.seat.me.0 ≡ moved v Outside = ap (λ m. m.0) c.leave.ensures.outside ∙ ap (λ m. moved m.0 Outside) c.exchange.ensures.3 in record {
      counted = search rules;
      holds = search rules;
      sound = rw e (sound_moved g.B.Logged.kind c.pass.inside.seat.table_id _ v Outside refl c.pass.invariant.sound);
    }

pub returns-then-count-before-clause-sound : goal.returns-then-count-before-clause-sound
returns-then-count-before-clause-sound g c = (invariant_of-pass g c).sound

pub invariant_of-pass-2 : goal.invariant_of-pass-2
invariant_of-pass-2 g c =
    let v = c.pass.inside.seat.me.0 in
    let z = c.pass.inside.seat.table_id in
    let xs = g.B.Logged.log c.args.held.value in
    let slots : c.exchange.new.seat.me ≡ (v, (0, Some c.args.held.value) ∷ []) = search rules in
    let added : c.add.new.seat.me ≡ (grown v xs, (0, Some c.args.held.value) ∷ []) = c.add.ensures.seen c.args.held.value (ap (λ m. m.1) slots) ∙ ap (λ m. (grown m.0 xs, m.1)) slots in
    let e : c.leave-2.new.seat.me.0 ≡ moved (grown v xs) Outside = ap (λ m. m.0) c.leave-2.ensures.outside ∙ ap (λ m. moved m.0 Outside) added in
    let own : OwnsSubjects g.B.Logged.kind xs (v.mine ++ length v.seen ∷ []) = rw added at c.leave-2.ensures.subjects in
    let may : MayGive g.B.Logged.kind (known_of z v) xs = subst (λ k. MayGive g.B.Logged.kind k xs) (sym c.pass.view_is) c.requires.entries in
    let longer : length xs ≡ length v.seen → ⊥ = (λ same. c.if-count-before.false (c.entries-count.ensures ∙ (same ∙ sym c.pass.invariant.counted))) in record {
      counted = search rules;
      holds = search rules;
      sound = rw e (sound_given g.B.Logged.kind z _ v xs may longer own c.pass.invariant.sound);
    }

pub returns-clause-sound : goal.returns-clause-sound
returns-clause-sound g c = (invariant_of-pass-2 g c).sound
