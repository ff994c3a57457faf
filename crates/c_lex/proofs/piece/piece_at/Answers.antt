use Rattle.std.proofs.Common.{◌≡◌, ◌<◌, length, sym, ◌∙◌, refl, subst, arith}
use Rattle.std.specs.Prelude.{IfNone}
use Rattle.c_lex.specs.Pieces.{NoPiece}
use Rattle.std.proofs.lemmas.Bool.Decides.{nat_tests}
use Rattle.c_lex.proofs.Finds.{BeginsMark, finds_nothing, finds_blank, finds_word, finds_mark, finds_no_mark}
use Rattle.c_lex.proofs.piece.piece_at.Goals as goal

pub returns-then-is_empty-clause-none : goal.returns-then-is_empty-clause-none
returns-then-is_empty-clause-none c =
    let none : length c.args.rest.now ≡ 0 = grind (arith, nat_tests) in
    finds_nothing c.args.leads c.args.rest.now none

pub returns-then-is_blank-clause-found : goal.returns-then-is_blank-clause-found
returns-then-is_blank-clause-found c =
    let some : 0 < length c.args.rest.now = grind (arith, nat_tests) in
    finds_blank c.args.leads c.args.rest.now _ some (sym c.is_blank.ensures ∙ c.if-is_blank.true) refl refl

pub returns-then-is_word_head-clause-found : goal.returns-then-is_word_head-clause-found
returns-then-is_word_head-clause-found c =
    let some : 0 < length c.args.rest.now = grind (arith, nat_tests) in
    finds_word c.args.leads c.args.rest.now _ some (sym c.is_word_head.ensures ∙ c.if-is_word_head.true) refl c.word_length.ensures

pub returns-in_ok-length-clause-found : goal.returns-in_ok-length-clause-found
returns-in_ok-length-clause-found c =
    let begins : BeginsMark c.args.rest.now = record {
      some = grind (arith, nat_tests);
      blank = sym c.is_blank.ensures ∙ c.if-is_blank.false;
      hash = c.if-first-eq35.false;
      slash = c.if-first-eq47.false;
      digit = sym c.is_ascii_digit.ensures.value ∙ c.if-is_ascii_digit.false;
      word = sym c.is_word_head.ensures ∙ c.if-is_word_head.false;
    } in
    finds_mark c.args.leads c.args.rest.now _ c.in_ok-length.length begins c.in_ok-length.ensures.found refl refl

pub returns-in_err-length-clause-none : goal.returns-in_err-length-clause-none
returns-in_err-length-clause-none c =
    let begins : BeginsMark c.args.rest.now = record {
      some = grind (arith, nat_tests);
      blank = sym c.is_blank.ensures ∙ c.if-is_blank.false;
      hash = c.if-first-eq35.false;
      slash = c.if-first-eq47.false;
      digit = sym c.is_ascii_digit.ensures.value ∙ c.if-is_ascii_digit.false;
      word = sym c.is_word_head.ensures ∙ c.if-is_word_head.false;
    } in
    subst (λ o. IfNone o (NoPiece c.args.leads c.args.rest.now)) (sym c.from_residual.ensures) (finds_no_mark c.args.leads c.args.rest.now begins c.in_err-length.ensures.none)
