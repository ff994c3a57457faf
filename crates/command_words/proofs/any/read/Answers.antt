use Rattle.std.proofs.Common.{map}
use Rattle.clap.specs.Words.{app_of}
use Rattle.command_words.specs.ClapForm.{form_of}
use Rattle.command_words.proofs.CommandReads.{ok_reads}
use Rattle.command_words.proofs.any.read.Goals as goal

pub returns : goal.returns
returns c =
    ok_reads (form_of (map (λ s. s.now) c.args.positionals.now) (map (λ s. s.now) c.args.options.now)) c.args.name.now (app_of c.in_ok-command.command) (map (λ s. s.now) c.args.texts.now)
    c.matches_of.result c.requires.sound c.requires.said c.in_ok-command.ensures c.matches_of.ensures
