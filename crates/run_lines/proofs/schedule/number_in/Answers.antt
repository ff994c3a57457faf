use Rattle.std.proofs.Common.{rules, ◌≡◌, subst, ℕ, List, true, arith}
use Rattle.std.specs.Str.{all_ascii_digits}
use Rattle.std.specs.Str.Parse.{ParsesUnsigned}
use Rattle.run_lines.proofs.Numerals.{digits_utf8, no_number}
use Rattle.run_lines.proofs.schedule.number_in.Goals as goal

pub returns-in-Err-parse-clause-is : goal.returns-in-Err-parse-clause-is
returns-in-Err-parse-clause-is c =
    let digits : all_ascii_digits c.args.text.now ≡ true = search rules in
    no_number c.parse.result c.in-Err-parse.field-0 c.args.text.now c.args.digits c.args.greatest
    (subst (λ (l : List ℕ). ParsesUnsigned 64 10 l c.parse.result) c.in-Ok.ensures.cases.0 c.parse.ensures.value.0) c.in-Err-parse.is digits (search rules) (search rules)

pub returns-in-Err-clause-is : goal.returns-in-Err-clause-is
returns-in-Err-clause-is c =
    let digits : all_ascii_digits c.args.text.now ≡ true = search rules in
    absurd (c.in-Err.ensures.cases.0 (digits_utf8 c.args.text.now digits))
