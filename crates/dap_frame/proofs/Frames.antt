-- What is framed is a message.
use Rattle.std.proofs.Common.{◌≡◌, ℕ, suc, ◌+◌, ◌-◌, ◌*◌, ◌<◌, ◌≤◌, ◌^◌, Bool, true, false, List, [], ◌∷◌, ◌++◌, length, reverse, refl, ◌∙◌, ap, subst, arith, rules, append_assoc, length-append}
use Rattle.std.specs.Prelude.{◌==◌, ◌&&◌, not, nat_le, codes, decimal, map, fold}
use Rattle.std.specs.Char.{is_ascii_digit}
use Rattle.std.specs.List.{list_all, flat_map, AllByRecursion}
use Rattle.std.proofs.lemmas.Bool.{cond-true, cond-false, le-leb, and_parts, and_from, leb-true, ne_eqb, or_from, not_from_false}
use Rattle.std.proofs.lemmas.Fmt.{digits_decimal, digits_value-decimal, length-decimal-le, decimal_nonempty}
use Rattle.std.proofs.lemmas.List.{reverse-reverse, reverse-append}
use Rattle.std.proofs.lemmas.List.Folds.{list_all-append}
use Rattle.std.proofs.lemmas.Str.Parse.{IsNumeralModel, numerals_by_fold}
use Rattle.dap_frame.specs.declared.header.TheConstants.{MAX_CONTENT}
use Rattle.dap_frame.specs.declared.line.Line.{Line}
use Rattle.dap_frame.specs.declared.line.Line.TheVariants.{Length, Malformed}
use Rattle.dap_frame.specs.declared.header.Header.TheVariants.{Open}
use Rattle.dap_frame.specs.Header.{nothing_said}
use Rattle.dap_frame.specs.Line.{is_value, is_blank, drop_blanks, trimmed, is_number, number_of, length_line, field_of}
use Rattle.dap_frame.specs.Frame.{framed}
use Rattle.dap_frame.specs.Stream.{Reads, whole}
use Rattle.dap_frame.specs.Grammar.{Field, field_text, whole_line, length_in, is_sound, Spelled, spelling, IsContent, IsSpelled}
use Rattle.dap_frame.proofs.Spellings.{is_text, reads_messages}

abbrev digits_after : ℕ → List ℕ → ℕ
digits_after n digits = fold (λ m digit. m * 10 + (digit - 48)) n digits

are_digits : IsNumeralModel (λ ds. list_all is_ascii_digit ds ≡ true) (digits_after 0)
are_digits = numerals_by_fold _ (search rules) digits_after (search rules)

digit_range : (b : ℕ) → is_ascii_digit b ≡ true → (48 ≤ b) × (b ≤ 57)
digit_range b is = let parts = and_parts (nat_le 48 b) (nat_le b 57) is in (leb-true 48 b parts.0, leb-true b 57 parts.1)

-- Digits are no blanks, no CR and no LF.
digit_no_blank : (b : ℕ) → is_ascii_digit b ≡ true → is_blank b ≡ false
digit_no_blank b is = let r = digit_range b is in or_from (b == 32) (b == 9) (ne_eqb b 32 (λ e. omega arith)) (ne_eqb b 9 (λ e. omega arith))

drop_blanks-digits : (ds : List ℕ) → list_all is_ascii_digit ds ≡ true → drop_blanks ds ≡ ds
drop_blanks-digits [] all = refl
drop_blanks-digits (b ∷ ds) all =
    cond-false (is_blank b) (drop_blanks ds) (b ∷ ds) (digit_no_blank b (and_parts (is_ascii_digit b) (list_all is_ascii_digit ds) all).0)

list_all-reverse : (p : ℕ → Bool) (xs : List ℕ) → list_all p xs ≡ true → list_all p (reverse xs) ≡ true
list_all-reverse p [] all = refl
list_all-reverse p (x ∷ xs) all =
    let parts = and_parts (p x) (list_all p xs) all in
    ap (list_all p) (reverse-append (x ∷ []) xs) ∙ list_all-append p (reverse xs) (x ∷ [])
    ∙ and_from (list_all p (reverse xs)) (p x && true) (list_all-reverse p xs parts.1) (and_from (p x) true parts.0 refl)

text_digits : (ds : List ℕ) → list_all is_ascii_digit ds ≡ true → list_all is_text ds ≡ true
text_digits [] all = refl
text_digits (b ∷ ds) all =
    let parts = and_parts (is_ascii_digit b) (list_all is_ascii_digit ds) all in
    let r = digit_range b parts.0 in
    and_from (is_text b) (list_all is_text ds)
    (and_from (not (b == 13)) (not (b == 10)) (not_from_false (b == 13) (ne_eqb b 13 (λ e. omega arith))) (not_from_false (b == 10) (ne_eqb b 10 (λ e. omega arith))))
    (text_digits ds parts.1)

trimmed-digits : (ds : List ℕ) → list_all is_ascii_digit ds ≡ true → trimmed (32 ∷ ds) ≡ ds
trimmed-digits ds all =
    ap (λ (xs : List ℕ). reverse (drop_blanks (reverse xs))) (drop_blanks-digits ds all)
    ∙ ap reverse (drop_blanks-digits (reverse ds) (list_all-reverse is_ascii_digit ds all)) ∙ reverse-reverse ds

abbrev length_name : List ℕ
length_name = codes "Content-Length"

-- The line that a frame begins with gives the length.
length_field : (n : ℕ) → n ≤ MAX_CONTENT → field_of length_name (32 ∷ decimal n) ≡ Length n
length_field n fits =
    let small : n < 2 ^ 64 = omega arith in
    let ds : List ℕ = decimal n in
    let all : list_all is_ascii_digit ds ≡ true = digits_decimal are_digits n small in
    let long : length ds ≤ 7 = length-decimal-le 7 n (omega arith) (omega arith) small in
    let some : 0 < length ds = decimal_nonempty n small in
    let number : is_number ds ≡ true =
    and_from (nat_le 1 (length ds) && nat_le (length ds) 10) (list_all is_ascii_digit ds)
    (and_from (nat_le 1 (length ds)) (nat_le (length ds) 10) (le-leb 1 (length ds) (omega arith)) (le-leb (length ds) 10 (omega arith))) all in
    cond-true (is_value (32 ∷ ds)) (length_line (trimmed (32 ∷ ds))) Malformed (text_digits ds all)
    ∙ ap length_line (trimmed-digits ds all)
    ∙ cond-true (is_number ds) (Length (number_of ds)) Malformed number
    ∙ ap Length (digits_value-decimal are_digits n small)

abbrev spelled_of : List ℕ → Spelled
spelled_of content = record { fields = (record { name = length_name; value = 32 ∷ decimal (length content) }) ∷ []; content = content }

spelled : (content : List ℕ) → IsContent content → IsSpelled (spelled_of content)
spelled content fits =
    let n : ℕ = length content in
    let says : field_of length_name (32 ∷ decimal n) ≡ Length n = length_field n fits in
    let long : length (decimal n) ≤ 7 = length-decimal-le 7 n (omega arith) (omega arith) (omega arith) in
    let value : List ℕ = 32 ∷ decimal n in
    let field : Field = record { name = length_name; value = value } in
    let text_long : length (field_text field) ≡ 14 + (1 + length (value ++ 13 ∷ [])) = length-append length_name (58 ∷ (value ++ 13 ∷ [])) ∙ (let k : 14 + suc (length (value ++ 13 ∷ [])) ≡ 14 + (1 + length (value ++ 13 ∷ [])) = omega arith in k) in
    let value_long : length (value ++ 13 ∷ []) ≡ length value + 1 = length-append value (13 ∷ []) in
    let line_long : length (whole_line field) ≡ length (field_text field) + 1 = length-append (field_text field) (10 ∷ []) in
    let all_long : length (whole_line field ++ []) ≡ length (whole_line field) + 0 = length-append (whole_line field) [] in
    record {
      each = (record { no_colon = refl; sound = ap is_sound says }, tt);
      once = ap (λ (line : Line). length_in line ++ []) says;
      short = omega arith;
      content = fits;
    }

spelling_is : (content : List ℕ) → spelling (spelled_of content) ≡ framed content
spelling_is content =
    let ds : List ℕ = decimal (length content) in
    let tail : (((ds ++ 13 ∷ []) ++ 10 ∷ []) ++ []) ++ 13 ∷ 10 ∷ content ≡ (ds ++ 13 ∷ 10 ∷ 13 ∷ 10 ∷ []) ++ content = simp append_assoc in
    ap (λ (bytes : List ℕ). codes "Content-Length: " ++ bytes) tail

pub reads_frames : (start : ℕ) (contents : List (List ℕ)) → AllByRecursion IsContent contents → Reads start (Open nothing_said) (flat_map framed contents) contents whole
reads_frames start contents each =
    subst (λ (bytes : List ℕ). Reads start (Open nothing_said) bytes contents whole) (spellings contents)
    (subst (λ (cs : List (List ℕ)). Reads start (Open nothing_said) (flat_map spelling (map spelled_of contents)) cs whole) (contents_of contents)
    (reads_messages start (map spelled_of contents) (all_spelled contents each)))
  where
    spellings : (cs : List (List ℕ)) → flat_map spelling (map spelled_of cs) ≡ flat_map framed cs
    spellings [] = refl
    spellings (c ∷ cs) = ap (λ (bytes : List ℕ). bytes ++ flat_map spelling (map spelled_of cs)) (spelling_is c) ∙ ap (λ (bytes : List ℕ). framed c ++ bytes) (spellings cs)

    contents_of : (cs : List (List ℕ)) → map (λ m. m.content) (map spelled_of cs) ≡ cs
    contents_of [] = refl
    contents_of (c ∷ cs) = ap (λ (ds : List (List ℕ)). c ∷ ds) (contents_of cs)

    all_spelled : (cs : List (List ℕ)) → AllByRecursion IsContent cs → AllByRecursion IsSpelled (map spelled_of cs)
    all_spelled [] all = tt
    all_spelled (c ∷ cs) all = (spelled c all.0, all_spelled cs all.1)
