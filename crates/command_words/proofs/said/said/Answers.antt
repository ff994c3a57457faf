use Rattle.std.proofs.Common.{rules, ◌≡◌, true, false, refl, IsUtf8}
use Rattle.command_words.specs.Reading.{goes_to_clap}
use Rattle.command_words.proofs.Saying.{said_not, said_is, said_wrong}
use Rattle.command_words.proofs.said.said.Goals as goal

pub returns-then-has_right_form : goal.returns-then-has_right_form
returns-then-has_right_form c =
    let text : IsUtf8 c.args.word.now = search rules in
    let said : goes_to_clap c.args.word.now ≡ true = said_is c.args.word.now text (search rules) in
    rw said (search rules)

pub returns-else-has_right_form : goal.returns-else-has_right_form
returns-else-has_right_form c =
    let said : goes_to_clap c.args.word.now ≡ false = said_wrong c.args.word.now (search rules) in
    rw said refl

pub returns-in-None : goal.returns-in-None
returns-in-None c =
    let said : goes_to_clap c.args.word.now ≡ false = said_not c.args.word.now (search rules) in
    rw said refl
