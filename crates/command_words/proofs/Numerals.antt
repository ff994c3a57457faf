-- Digits that are no number of 64 bits.
use Rattle.std.proofs.Common.{◌≡◌, ◌<◌, ◌≤◌, ◌^◌, ◌&&◌, ℕ, Bool, true, false, refl, cond, arith, length, Some, None, Result, Ok, Err}
use Rattle.std.specs.Prelude.{nat_le}
use Rattle.std.specs.Str.{all_ascii_digits}
use Rattle.std.specs.Str.Parse.{ParsesUnsigned, digits_value}
use Rattle.std.proofs.lemmas.Str.Parse.{IsNumeralModel, numerals_by_value, tells_all_ascii_digits, parse_digits}
use Rattle.std.proofs.lemmas.Bool.Decides.{nat_tests}
use Rattle.command_words.specs.Reading.{Word}
use Rattle.command_words.specs.Numbers.{number}

digits_model : IsNumeralModel (λ ds. all_ascii_digits ds ≡ true) (digits_value 10)
digits_model = numerals_by_value _ tells_all_ascii_digits

above : (n high : ℕ) → (n < 2 ^ 64 → ⊥) → high < 2 ^ 64 → nat_le n high ≡ false
above n high never small =
    let most : 2 ^ 64 ≤ n = omega arith in
    grind (arith, nat_tests)

pub no_number : {E : Type 0} (r : Result ℕ E) (e : E) (text : Word) (most low high : ℕ) → ParsesUnsigned 64 10 text r → r ≡ Err e → all_ascii_digits text ≡ true → 0 < length text → high < 2 ^ 64
    → None ≡ number most low high text
no_number (Ok n) e text most low high parsed is digits some small = absurd (cc)
no_number (Err x) e text most low high parsed is digits some small =
    let never = parse_digits digits_model 64 text (Err x) parsed digits in
    let over : nat_le (digits_value 10 text) high ≡ false = above (digits_value 10 text) high (λ below. never (some, below)) small in
    rw (digits, over) (go (nat_le 1 (length text)) (nat_le (length text) most) (nat_le low (digits_value 10 text)))
  where
    go : (a b c : Bool) → None ≡ cond (true && (a && (b && (c && false)))) (Some (digits_value 10 text)) None
    go false b c = refl
    go true false c = refl
    go true true false = refl
    go true true true = refl
