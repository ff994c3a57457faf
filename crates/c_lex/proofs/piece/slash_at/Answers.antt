use Rattle.std.proofs.Common.{sym, ◌∙◌, refl}
use Rattle.c_lex.proofs.Finds.{finds_line, finds_divides, finds_divide}
use Rattle.c_lex.proofs.piece.slash_at.Goals as goal

pub returns-then-second-eq47 : goal.returns-then-second-eq47
returns-then-second-eq47 c = finds_line c.args.leads c.args.rest.now _ c.requires.first (sym c.second_of-second.ensures ∙ c.if-second-eq47.true) refl c.line_length.ensures

pub returns-then-second-eq61 : goal.returns-then-second-eq61
returns-then-second-eq61 c = finds_divides c.args.leads c.args.rest.now _ c.requires.first (sym c.second_of-second.ensures ∙ c.if-second-eq61.true) refl refl

pub returns-else-second-eq61 : goal.returns-else-second-eq61
returns-else-second-eq61 c =
    finds_divide c.args.leads c.args.rest.now _ c.requires.some c.requires.first (λ e. c.if-second-eq47.false (c.second_of-second.ensures ∙ e)) (λ e. c.if-second-eq42.false (c.second_of-second.ensures ∙ e)) (λ e. c.if-second-eq61.false (c.second_of-second.ensures ∙ e)) refl refl
