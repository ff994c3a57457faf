use Rattle.c_parse.proofs.Expressions.{one_of_a_text}
use Rattle.c_parse.proofs.expr_text.one_expression.Goals as goal

pub returns : goal.returns
returns c = one_of_a_text c.one_cut.ensures.tokens
