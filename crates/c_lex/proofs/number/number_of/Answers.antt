use Rattle.std.proofs.Common.{sym, ◌∙◌, ap, subst, length, ◌<◌, get_or, ◌≡◌, arith, ℕ, List, inl, inr}
use Rattle.std.proofs.lemmas.List.{nil_from_length}
use Rattle.std.proofs.lemmas.Bool.{cases_lt, both_ways}
use Rattle.std.proofs.lemmas.Bool.Decides.{nat_tests}
use Rattle.c_lex.proofs.Finds.{number_from_digits}
use Rattle.c_lex.proofs.Numerals.{no_digits, leading_zero}
use Rattle.c_lex.proofs.number.number_of.Goals as goal

pub returns-then-is_empty-clause-none : goal.returns-then-is_empty-clause-none
returns-then-is_empty-clause-none c =
    let none : length c.without_suffix-digits.result.now ≡ 0 = grind (arith, nat_tests) in
    no_digits c.args.run.now (sym c.without_suffix-digits.ensures ∙ nil_from_length _ none)

pub returns-then-has_leading_zero-clause-none : goal.returns-then-has_leading_zero-clause-none
returns-then-has_leading_zero-clause-none c =
    let zero_first = c.has_leading_zero.ensures.0 c.if-has_leading_zero.true in
    leading_zero c.args.run.now
    (ap (λ (ds : List ℕ). get_or ds 0 0) (sym c.without_suffix-digits.ensures) ∙ zero_first.1)
    (subst (λ (ds : List ℕ). 1 < length ds) c.without_suffix-digits.ensures zero_first.0)

pub returns-clause-none : goal.returns-clause-none
returns-clause-none c =
    let some : 0 < length c.without_suffix-digits.result.now = grind (arith, nat_tests) in
    let plain : get_or c.without_suffix-digits.result.now 0 0 ≡ 48 → length c.without_suffix-digits.result.now ≡ 1 = λ zero_first.
    elim (cases_lt 1 (length c.without_suffix-digits.result.now)) [
      | inl more ↦ absurd (both_ways _ c.if-has_leading_zero.false (c.has_leading_zero.ensures.1 (more, zero_first)))
      | inr one ↦ omega arith
    ] in
    (number_from_digits c.args.run.now c.without_suffix-digits.result.now c.value_of.result c.without_suffix-digits.ensures some plain c.value_of.ensures).1
