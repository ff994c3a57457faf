use Rattle.std.proofs.Common.{◌∙◌, arith}
use Rattle.c_parse.proofs.Expressions.{no_other, none_there, not_both}
use Rattle.c_parse.proofs.expr_text.expr_of.Goals as goal

pub terminals_of-requires : goal.terminals_of-requires
terminals_of-requires c = c.one_cut.ensures.inside c.args.text.now c.args.tokens.now c.requires

pub returns-in-Ok-clause-not_one : goal.returns-in-Ok-clause-not_one
returns-in-Ok-clause-not_one c =
    λ _ f d. no_other c.one_cut.ensures.tokens c.requires (c.as_slice-all.ensures ∙ c.in_ok-terminals.ensures) c.in-Ok.ensures.found (λ h p. grind (arith, h, c.if-is_empty.false, c.is_empty.ensures)) f d

pub returns-in-Err-At-clause-not_one : goal.returns-in-Err-At-clause-not_one
returns-in-Err-At-clause-not_one c =
    λ _ f d. none_there c.one_cut.ensures.tokens c.requires (c.as_slice-all.ensures ∙ c.in_ok-terminals.ensures) (rw c.in-Err-At.field-0-is at c.in-Err-At.ensures.stop) f d

pub returns-then-is_empty-clause-not_one : goal.returns-then-is_empty-clause-not_one
returns-then-is_empty-clause-not_one c =
    λ _ f d. no_other c.one_cut.ensures.tokens c.requires (c.as_slice-all.ensures ∙ c.in_ok-terminals.ensures) c.in-Ok.ensures.found (λ h p. not_both c.is_plain.ensures c.if-is_plain.false p) f d
