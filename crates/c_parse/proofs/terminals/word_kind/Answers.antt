use Rattle.std.proofs.Common.{sym, ◌∙◌}
use Rattle.c_parse.proofs.Words.{fixed_is}
use Rattle.c_parse.proofs.terminals.word_kind.Goals as goal

pub returns-in-Some : goal.returns-in-Some
returns-in-Some c = fixed_is c.args.word.now c.in-Some.kind (sym c.fixed_word.ensures ∙ c.in-Some.is)
