use Rattle.std.proofs.Common.{◌≡◌, ◌∙◌, sym, subst, ◌++◌, ◌∷◌, [], MatchBool}
use Rattle.std.specs.List.{Contains}
use Rattle.turn_trial.specs.declared.notes.Note.TheVariants.{Opened, Closed}
use Rattle.turn_trial.proofs.Giving.{still_opened, opened_there, gives_closed, has_served}
use Rattle.turn_trial.proofs.play.close.Goals as goal

pub close-closed-requires : goal.close-closed-requires
close-closed-requires g c =
    let h = still_opened c.args.session c.args.pass.now c.take-held.new.pass c.take-held.ensures.later c.take-held.ensures.same.2 c.requires.opened in
    subst (λ l. Contains l (Opened c.args.session)) c.take-held.ensures.seen (opened_there c.args.session c.take-held.new.pass h)

pub give-requires-clause-entries : goal.give-requires-clause-entries
give-requires-clause-entries g c =
    let h = still_opened c.args.session c.args.pass.now c.take-held.new.pass c.take-held.ensures.later c.take-held.ensures.same.2 c.requires.opened in
    gives_closed c.args.session c.take-held.new.pass _ _ c.close-closed.result (c.take-held.ensures.same.1 ∙ c.requires.hand) c.take-held.ensures.seen h c.close-closed.ensures

pub returns-clause-served : goal.returns-clause-served
returns-clause-served g c right =
    let h = still_opened c.args.session c.args.pass.now c.take-held.new.pass c.take-held.ensures.later c.take-held.ensures.same.2 c.requires.opened in
    has_served c.args.session c.take-held.new.pass c.give.new.pass c.close-closed.new.self c.close-closed.result right c.give.ensures.seen h
    (subst (λ l. MatchBool c.close-closed.result (c.close-closed.new.self ≡ l ++ Closed c.args.session ∷ []) (c.close-closed.new.self ≡ l)) (sym c.take-held.ensures.seen) c.close-closed.ensures)
    c.give.ensures.added
