-- Digits that are no number of 64 bits.
use Rattle.std.proofs.Common.{◌≡◌, ◌<◌, ◌≤◌, ◌^◌, ◌&&◌, ℕ, List, Bool, true, false, refl, cond, arith, length, Some, None, Result, Ok, Err}
use Rattle.std.specs.Prelude.{nat_le, IsUtf8}
use Rattle.std.proofs.lemmas.Fmt.{IsAscii-from_digits}
use Rattle.std.proofs.lemmas.Str.{IsUtf8-from_ascii}
use Rattle.std.specs.Str.{all_ascii_digits}
use Rattle.std.specs.Str.Parse.{ParsesUnsigned, digits_value}
use Rattle.std.proofs.lemmas.Str.Parse.{IsNumeralModel, numerals_by_value, tells_all_ascii_digits, parse_digits}
use Rattle.std.proofs.lemmas.Bool.Decides.{nat_tests}
use Rattle.run_lines.specs.Schedule.{number_of}

digits_model : IsNumeralModel (λ ds. all_ascii_digits ds ≡ true) (digits_value 10)
digits_model = numerals_by_value _ tells_all_ascii_digits

-- ASCII digits are UTF-8
pub digits_utf8 : (text : List ℕ) → all_ascii_digits text ≡ true → IsUtf8 text
digits_utf8 text digits = IsUtf8-from_ascii text (IsAscii-from_digits text (digits_model.to text digits))

above : (n high : ℕ) → (n < 2 ^ 64 → ⊥) → high < 2 ^ 64 → nat_le n high ≡ false
above n high never small =
    let most : 2 ^ 64 ≤ n = omega arith in
    grind (arith, nat_tests)

pub no_number : {E : Type 0} (r : Result ℕ E) (e : E) (text : List ℕ) (most high : ℕ) → ParsesUnsigned 64 10 text r → r ≡ Err e → all_ascii_digits text ≡ true → 0 < length text → high < 2 ^ 64
    → None ≡ number_of most high text
no_number (Ok n) e text most high parsed is digits some small = absurd (cc)
no_number (Err x) e text most high parsed is digits some small =
    let never = parse_digits digits_model 64 text (Err x) parsed digits in
    let over : nat_le (digits_value 10 text) high ≡ false = above (digits_value 10 text) high (λ below. never (some, below)) small in
    rw (digits, over) (go (nat_le 1 (length text)) (nat_le (length text) most))
  where
    go : (a b : Bool) → None ≡ cond (true && (a && (b && false))) (Some (digits_value 10 text)) None
    go false b = refl
    go true false = refl
    go true true = refl
