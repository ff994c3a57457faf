use Rattle.c_parse.proofs.Expressions.{no_tokens, told_as}
use Rattle.c_parse.proofs.expr_text.parse_expr.Goals as goal

pub returns-in-Err-clause-not_one : goal.returns-in-Err-clause-not_one
returns-in-Err-clause-not_one c =
    λ h e d. no_tokens c.one_cut.ensures.either c.args.text.now c.in-Err.fault c.in-Err.ensures.fault (told_as c.in-Err.fault c.expr_fault.ensures h) e d
