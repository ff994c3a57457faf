use Rattle.std.proofs.Common.{rules, ◌≡◌, true, arith}
use Rattle.std.specs.Str.{all_ascii_digits}
use Rattle.command_words.proofs.Numerals.{no_number}
use Rattle.command_words.proofs.number.number_in.Goals as goal

pub returns-in-Err-clause-is : goal.returns-in-Err-clause-is
returns-in-Err-clause-is c =
    let digits : all_ascii_digits c.args.text.now ≡ true = search rules in
    no_number c.parse.result c.in-Err.field-0 c.args.text.now c.args.digits c.args.least c.args.greatest c.parse.ensures.value.0 c.in-Err.is digits (search rules) (omega arith)
