use Rattle.std.proofs.Common.{◌≡◌, ◌∙◌, sym, subst, ◌++◌, ◌∷◌, [], IfSome}
use Rattle.turn_trial.specs.declared.notes.Note.TheVariants.{Opened}
use Rattle.turn_trial.proofs.Giving.{gives_opened, has_opened}
use Rattle.turn_trial.proofs.play.open.Goals as goal

pub give-requires-clause-entries : goal.give-requires-clause-entries
give-requires-clause-entries g c =
    let o = c.open-session.ensures in
    gives_opened c.take-held.new.pass _ _ c.open-session.result (c.take-held.ensures.same.1 ∙ c.requires.hand) c.take-held.ensures.seen o.opened o.fresh o.none

pub returns-clause-opened : goal.returns-clause-opened
returns-clause-opened g c =
    has_opened c.take-held.new.pass c.give.new.pass c.open-session.new.self c.open-session.result c.give.ensures.seen
    (subst (λ l. IfSome c.open-session.result (λ s. c.open-session.new.self ≡ l ++ Opened s ∷ [])) (sym c.take-held.ensures.seen) c.open-session.ensures.opened)
    c.give.ensures.added
