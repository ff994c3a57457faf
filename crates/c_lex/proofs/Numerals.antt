-- Decimal spellings: their digits, and that a spelling has one number.
use Rattle.std.proofs.Common.{◌≡◌, ℕ, zero, suc, ◌+◌, ◌-◌, ◌*◌, ◌≤◌, ◌<◌, ◌^◌, Bool, true, false, List, [], ◌∷◌, ◌++◌, length, take, get_or, refl, sym, ap, subst, ◌∙◌, arith, inl, inr, ℤ, pos, decimal}
use Rattle.std.specs.Prelude.{◌==◌}
use Rattle.std.specs.Char.{is_ascii_digit, digit_value}
use Rattle.std.specs.List.{list_all}
use Rattle.std.specs.Str.{all_ascii_digits}
use Rattle.std.specs.Str.Parse.{AllDigits, digits_value, digits_value_after}
use Rattle.std.proofs.lemmas.Bool.{and_parts, and_from, or_right, cond-true, cond-false, or_cases, cases_eq, eqb-true}
use Rattle.std.proofs.lemmas.Bool.Decides.{nat_tests}
use Rattle.std.proofs.lemmas.Fmt.{decimal_is_IsNumeral, decimal_injective, decimal-digits_value, decimal_digit, first_decimal}
use Rattle.std.proofs.lemmas.Str.Parse.{digit_from_value, IsNumeralModel, numerals_by_value, tells_all_ascii_digits, digits_value-take-le}
use Rattle.std.proofs.lemmas.List.{take_at, append-nil, length-append, get_or_at, take_all, take_more}
use Rattle.c_lex.specs.Pieces.{Only, Spells, IsSuffix}
use Rattle.gob_tree.specs.Words.{is_word_byte, is_word_head}
use Rattle.c_lex.specs.Numbers.{is_suffix, without_suffix_of}

Only-digits : (ds : List ℕ) → AllDigits 10 ds → Only is_ascii_digit ds
Only-digits [] all = refl
Only-digits (c ∷ cs) all =
    let range = digit_from_value c all.0 in
    and_from (is_ascii_digit c) (list_all is_ascii_digit cs) (grind (arith, nat_tests)) (Only-digits cs all.1)

-- a number's decimal spelling is digits, of which there is one
pub decimal_digits : (n : ℕ) → n < 2 ^ 63 → Only is_ascii_digit (decimal n) × (0 < length (decimal n))
decimal_digits n fits =
    let small : n < 2 ^ 64 = omega arith in
    let numeral = decimal_is_IsNumeral n small in
    (Only-digits (decimal n) numeral.0.1, numeral.0.0)

digit_in_word : (ds s : List ℕ) → Only is_ascii_digit ds → Only is_word_byte s → Only is_word_byte (ds ++ s)
digit_in_word [] s only rest = rest
digit_in_word (d ∷ ds) s only rest =
    let parts = and_parts (is_ascii_digit d) (list_all is_ascii_digit ds) only in
    and_from (is_word_byte d) (list_all is_word_byte (ds ++ s)) (or_right (is_word_head d) (is_ascii_digit d) parts.0) (digit_in_word ds s parts.1 rest)

suffix_in_word : (s : List ℕ) → IsSuffix s → Only is_word_byte s
suffix_in_word s (inl e) = subst (Only is_word_byte) (sym e) refl
suffix_in_word s (inr (inl e)) = subst (Only is_word_byte) (sym e) refl
suffix_in_word s (inr (inr e)) = subst (Only is_word_byte) (sym e) refl

-- a number's spelling has only bytes of a word
pub Only-run : (run : List ℕ) (value : ℤ) → Spells run value → Only is_word_byte run
Only-run run value s =
    subst (Only is_word_byte) (sym s.spelled) (digit_in_word (decimal s.number) s.suffix (decimal_digits s.number s.fits).0 (suffix_in_word s.suffix s.suffixed))

-- what holds of each byte holds of the one at k
Only-at : (test : ℕ → Bool) (xs : List ℕ) (k : ℕ) → Only test xs → k < length xs → test (get_or xs k 0) ≡ true
Only-at test [] k only lt = absurd (omega arith)
Only-at test (x ∷ xs) zero only lt = (and_parts (test x) (list_all test xs) only).0
Only-at test (x ∷ xs) (suc k) only lt = Only-at test xs k (and_parts (test x) (list_all test xs) only).1 (omega arith)

-- digits with a suffix, without it
suffix_dropped : (ds : List ℕ) (c : ℕ) → is_suffix c ≡ true → without_suffix_of (ds ++ c ∷ []) ≡ ds
suffix_dropped ds c t =
    let last : length (ds ++ c ∷ []) - 1 ≡ length ds = omega (arith, length-append ds (c ∷ [])) in
    let there : get_or (ds ++ c ∷ []) (length ds) 0 ≡ c = get_or_at ds c [] 0 (length ds) refl in
    let yes : is_suffix (get_or (ds ++ c ∷ []) (length (ds ++ c ∷ []) - 1) 0) ≡ true = rw (last, there) t in
    cond-true _ _ _ yes ∙ (ap (λ n. take n (ds ++ c ∷ [])) last ∙ take_at ds (c ∷ []) (length ds) refl)

pub without_suffix_of-spelled : (ds s : List ℕ) → Only is_ascii_digit ds → 0 < length ds → IsSuffix s → without_suffix_of (ds ++ s) ≡ ds
without_suffix_of-spelled ds s only some (inl e) =
    let digit = Only-at is_ascii_digit ds (length ds - 1) only (omega arith) in
    let no : is_suffix (get_or ds (length ds - 1) 0) ≡ false = grind (arith, nat_tests) in
    ap (λ (t : List ℕ). without_suffix_of (ds ++ t)) e ∙ (ap without_suffix_of (append-nil ds) ∙ cond-false _ _ _ no)
without_suffix_of-spelled ds s only some (inr (inl e)) = ap (λ (t : List ℕ). without_suffix_of (ds ++ t)) e ∙ suffix_dropped ds 76 refl
without_suffix_of-spelled ds s only some (inr (inr e)) = ap (λ (t : List ℕ). without_suffix_of (ds ++ t)) e ∙ suffix_dropped ds 108 refl

-- what is left of the spelling of a number without its suffix
pub digits_of_run : (run : List ℕ) (value : ℤ) (s : Spells run value) → without_suffix_of run ≡ decimal s.number
digits_of_run run value s =
    let digits = decimal_digits s.number s.fits in
    ap without_suffix_of s.spelled ∙ without_suffix_of-spelled (decimal s.number) s.suffix digits.0 digits.1 s.suffixed

pub one_number : (run : List ℕ) (m n : ℤ) → Spells run m → Spells run n → m ≡ n
one_number run m n s t =
    let small : s.number < 2 ^ 64 = omega (arith, s.fits) in
    let small' : t.number < 2 ^ 64 = omega (arith, t.fits) in
    let same = decimal_injective s.number t.number small small' (sym (digits_of_run run m s) ∙ digits_of_run run n t) in
    s.is ∙ (ap pos same ∙ sym t.is)

suffix_is : (c : ℕ) → is_suffix c ≡ true → IsSuffix (c ∷ [])
suffix_is c t = elim (or_cases (c == 76) (c == 108) t) [ inl e ↦ inr (inl (ap (λ n. n ∷ []) (eqb-true c 76 e))) | inr e ↦ inr (inr (ap (λ n. n ∷ []) (eqb-true c 108 e))) ]

-- the last byte stands after the others
last_apart : (x : ℕ) (xs : List ℕ) → let run = x ∷ xs in let last = length run - 1 in run ≡ take last run ++ get_or run last 0 ∷ []
last_apart x xs =
    let run : List ℕ = x ∷ xs in
    let last : ℕ = length run - 1 in
    sym (take_all (last + 1) run (omega arith)) ∙ take_more run last 0 (omega arith)

split_by : (x : ℕ) (xs : List ℕ) (b : Bool) → is_suffix (get_or (x ∷ xs) (length (x ∷ xs) - 1) 0) ≡ b → (s : List ℕ) × IsSuffix s × (x ∷ xs ≡ without_suffix_of (x ∷ xs) ++ s)
split_by x xs true e =
    let run : List ℕ = x ∷ xs in
    let c : ℕ = get_or run (length run - 1) 0 in
    (c ∷ [], suffix_is c e, last_apart x xs ∙ ap (λ (r : List ℕ). r ++ c ∷ []) (sym (cond-true _ _ _ e)))
split_by x xs false e = ([], inl refl, sym (append-nil (without_suffix_of (x ∷ xs)) ∙ cond-false _ _ _ e))

-- a run is what is left without its suffix, and the suffix
pub split_run : (run : List ℕ) → (s : List ℕ) × IsSuffix s × (run ≡ without_suffix_of run ++ s)
split_run [] = ([], inl refl, refl)
split_run (x ∷ xs) = split_by x xs (is_suffix (get_or (x ∷ xs) (length (x ∷ xs) - 1) 0)) refl

-- one's own words for decimal digits
digits_model : IsNumeralModel (λ ds. all_ascii_digits ds ≡ true) (digits_value 10)
digits_model = numerals_by_value _ tells_all_ascii_digits

-- digits without a leading zero are the spelling of their value
pub spelled_digits : (run : List ℕ) → let ds = without_suffix_of run in all_ascii_digits ds ≡ true → 0 < length ds → (get_or ds 0 0 ≡ 48 → length ds ≡ 1) → digits_value 10 ds < 2 ^ 63 → Spells run (pos (digits_value 10 ds))
spelled_digits run all some plain small =
    let ds : List ℕ = without_suffix_of run in
    let split = split_run run in
    let small' : digits_value 10 ds < 2 ^ 64 = omega arith in
    let same : decimal (digits_value 10 ds) ≡ ds = decimal-digits_value digits_model ds all some plain small' in
    record { number = digits_value 10 ds; suffix = split.0; is = refl; fits = small; suffixed = split.1; spelled = split.2 ∙ ap (λ (d : List ℕ). d ++ split.0) (sym same) }

-- what has no digits spells nothing
pub no_digits : (run : List ℕ) → without_suffix_of run ≡ [] → (value : ℤ) → ¬ (Spells run value)
no_digits run e value s = let some = (decimal_digits s.number s.fits).1 in omega (arith, ap length (sym (digits_of_run run value s) ∙ e))

-- a leading zero stands alone
pub leading_zero : (run : List ℕ) → let ds = without_suffix_of run in get_or ds 0 0 ≡ 48 → 1 < length ds → (value : ℤ) → ¬ (Spells run value)
leading_zero run zero_first more value s =
    let e = digits_of_run run value s in
    elim (cases_eq s.number 0) [
      | inl z ↦ let one : decimal s.number ≡ 48 ∷ [] = ap decimal z ∙ decimal_digit 0 (omega arith) in omega (arith, ap length (e ∙ one))
      | inr nz ↦ let first : 48 < get_or (decimal s.number) 0 0 = first_decimal s.number (omega arith) (omega (arith, s.fits)) in
          let same : get_or (without_suffix_of run) 0 0 ≡ get_or (decimal s.number) 0 0 = ap (λ (d : List ℕ). get_or d 0 0) e in omega arith
    ]

-- what isn't the digits of such a number spells none
pub no_number_of_digits : (run : List ℕ) → let ds = without_suffix_of run in ¬ ((all_ascii_digits ds ≡ true) × (digits_value 10 ds < 2 ^ 63)) → (value : ℤ) → ¬ (Spells run value)
no_number_of_digits run none value s =
    let e = digits_of_run run value s in
    let small : s.number < 2 ^ 64 = omega (arith, s.fits) in
    let numeral = decimal_is_IsNumeral s.number small in
    none (subst (λ (ds : List ℕ). (all_ascii_digits ds ≡ true) × (digits_value 10 ds < 2 ^ 63)) (sym e) (digits_model.from (decimal s.number) numeral.0.1, subst (λ n. n < 2 ^ 63) (sym numeral.1) s.fits))

digits_value_after-push : (n : ℕ) (ds : List ℕ) (c : ℕ) → digits_value_after 10 n (ds ++ c ∷ []) ≡ digits_value_after 10 n ds * 10 + digit_value c
digits_value_after-push n [] c = refl
digits_value_after-push n (d ∷ ds) c = digits_value_after-push (n * 10 + digit_value d) ds c

digit_value_is : (c : ℕ) → is_ascii_digit c ≡ true → digit_value c ≡ c - 48
digit_value_is c t = grind (arith, nat_tests)

-- one more digit
pub digits_value_more : (ds : List ℕ) (i : ℕ) (d : ℕ) → i < length ds → is_ascii_digit (get_or ds i d) ≡ true → digits_value 10 (take (i + 1) ds) ≡ digits_value 10 (take i ds) * 10 + (get_or ds i d - 48)
digits_value_more ds i d lt t =
    ap (digits_value 10) (take_more ds i d lt) ∙ (digits_value_after-push 0 (take i ds) (get_or ds i d) ∙ ap (λ n. digits_value 10 (take i ds) * 10 + n) (digit_value_is (get_or ds i d) t))

all_push : (ds : List ℕ) (c : ℕ) → all_ascii_digits ds ≡ true → is_ascii_digit c ≡ true → all_ascii_digits (ds ++ c ∷ []) ≡ true
all_push [] c all t = and_from (is_ascii_digit c) true t refl
all_push (d ∷ ds) c all t =
    let parts = and_parts (is_ascii_digit d) (all_ascii_digits ds) all in
    and_from (is_ascii_digit d) (all_ascii_digits (ds ++ c ∷ [])) parts.0 (all_push ds c parts.1 t)

pub all_digits_more : (ds : List ℕ) (i : ℕ) (d : ℕ) → i < length ds → all_ascii_digits (take i ds) ≡ true → is_ascii_digit (get_or ds i d) ≡ true → all_ascii_digits (take (i + 1) ds) ≡ true
all_digits_more ds i d lt all t = subst (λ (r : List ℕ). all_ascii_digits r ≡ true) (sym (take_more ds i d lt)) (all_push (take i ds) (get_or ds i d) all t)

-- a byte that is no digit
pub digit_at_index : (ds : List ℕ) (i : ℕ) → all_ascii_digits ds ≡ true → i < length ds → is_ascii_digit (get_or ds i 0) ≡ true
digit_at_index [] i all lt = absurd (omega arith)
digit_at_index (d ∷ ds) zero all lt = (and_parts (is_ascii_digit d) (all_ascii_digits ds) all).0
digit_at_index (d ∷ ds) (suc i) all lt = digit_at_index ds i (and_parts (is_ascii_digit d) (all_ascii_digits ds) all).1 (omega arith)

-- digits are worth no less than those at their front
pub front_value : (ds : List ℕ) (i : ℕ) → digits_value 10 (take i ds) ≤ digits_value 10 ds
front_value ds i = digits_value-take-le 10 ds i (omega arith)
