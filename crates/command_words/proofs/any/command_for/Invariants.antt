use Rattle.std.proofs.Common.{◌≡◌, map, drop}
use Rattle.std.specs.Prelude.{fold}
use Rattle.clap.specs.Words.{app_of, new_app, with_rule}
use Rattle.command_words.specs.ClapForm.{app_with, form_of, positional_arg, option_arg}
use Rattle.command_words.proofs.any.command_for.Given as goal

abbrev pub invariant-loop-positional : goal.invariant-loop-positional
invariant-loop-positional l = fold with_rule (app_of l.command) (map positional_arg (map (λ s. s.now) (drop l.positional-index l.positionals)))
    ≡ fold with_rule (new_app l.name) (map positional_arg (map (λ s. s.now) l.positionals))

abbrev pub invariant-loop-option : goal.invariant-loop-option
invariant-loop-option l = fold with_rule (app_of l.command) (map option_arg (map (λ s. s.now) (drop l.option-index l.options)))
    ≡ app_with l.name (form_of (map (λ s. s.now) l.positionals) (map (λ s. s.now) l.options))
