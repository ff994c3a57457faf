use Rattle.std.proofs.Common.{sym, ◌∙◌}
use Rattle.std.proofs.lemmas.List.{append-nil}
use Rattle.c_lex.specs.Tokens.{texts}
use Rattle.c_lex.proofs.Cut.{one_whole_cut, one_list}
use Rattle.c_lex.proofs.Inside.{tokens_inside, no_more_tokens}
use Rattle.c_lex.proofs.Outcomes.{one_fault, tokens_or_fault}
use Rattle.c_lex.proofs.law.one_cut.Goals as goal

pub returns : goal.returns
returns c = record {
  cut = one_whole_cut;
  whole = λ text pieces cut. sym (append-nil (texts pieces)) ∙ cut.whole;
  tokens = one_list;
  fault = one_fault;
  either = tokens_or_fault;
  inside = tokens_inside;
  count = no_more_tokens;
}
