use Rattle.std.proofs.Common.{◌≡◌, ◌∷◌, ◌∙◌, IfOk, List, ℕ, option_map, map, drop, ap, ap₂, subst, arith}
use Rattle.command_words.specs.CommandLines.{command_reading}
use Rattle.command_words.proofs.CommandReads.{none_read, rest_is, same_words}
use Rattle.command_words.proofs.TextNames.{ok_names}
use Rattle.command_words.proofs.command.read_command.Goals as goal

pub returns-in-Some-clause-read : goal.returns-in-Some-clause-read
returns-in-Some-clause-read c =
    let same = same_words c.args.words.now c.command-item.result _ (map (λ s. s.now) c.in-Some.texts.items) (omega arith) c.command-item.is (rw (rest_is c.args.words.now) at c.in_ok-texts-in-len1-up.ensures) (ap (option_map (λ v. map (λ s. s.now) v.items)) c.in-Some.is) in
    subst (λ (ws : List (List ℕ)). IfOk c.command_with.result (λ o. o ≡ command_reading ws)) (ap₂ (λ x xs. x ∷ drop 1 (map (λ s. s.now) xs)) c.as_bytes.ensures c.as_slice.ensures.value ∙ same) c.command_with.ensures

pub returns-in-None-clause-read : goal.returns-in-None-clause-read
returns-in-None-clause-read c =
    none_read c.args.words.now _ (omega arith) (rw (rest_is c.args.words.now) at c.in_ok-texts-in-len1-up.ensures) (ap (option_map (λ v. map (λ s. s.now) v.items)) c.in-None.is)

pub returns-in-Some-clause-names : goal.returns-in-Some-clause-names
returns-in-Some-clause-names c = ok_names c.args.words.now c.command_with.result (returns-in-Some-clause-read c)
