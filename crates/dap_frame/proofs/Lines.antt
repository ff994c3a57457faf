-- The whole lines of bytes.
use Rattle.std.proofs.Common.{◌≡◌, ℕ, suc, ◌+◌, ◌<◌, ◌≤◌, Bool, inl, inr, List, [], ◌∷◌, ◌++◌, length, take, drop, get_or, refl, sym, ◌∙◌, ap, arith}
use Rattle.std.specs.Prelude.{◌==◌, Some, None, position, nat_lt}
use Rattle.std.specs.List.{list_any, position_or_len}
use Rattle.std.proofs.lemmas.Bool.{or_parts, or_from, cond-false, cases_Bool, ltb-false, eqb-true}
use Rattle.std.proofs.lemmas.List.{length-take, length-take-le, take-take, get_or-take, take-append-drop, drop_more}
use Rattle.std.proofs.lemmas.List.Folds.{list_any_none, list_any-append}
use Rattle.std.proofs.lemmas.List.Quantifiers.{position-Some}
use Rattle.std.proofs.lemmas.List.Sums.{fails_before_first}
use Rattle.dap_frame.specs.Header.{HasNoLf, lines_of, longer_by}

abbrev pub is_lf : ℕ → Bool
is_lf b = b == 10

-- A line ends at its first LF.
pub lines_of-line : (text rest : List ℕ) → HasNoLf text → lines_of (text ++ 10 ∷ rest) ≡ text ∷ lines_of rest
lines_of-line [] rest none = refl
lines_of-line (b ∷ text) rest none =
    let parts = or_parts (b == 10) (list_any is_lf text) none in
    cond-false (b == 10) ([] ∷ lines_of (text ++ 10 ∷ rest)) (longer_by b (lines_of (text ++ 10 ∷ rest))) parts.0
    ∙ ap (longer_by b) (lines_of-line text rest parts.1)

-- Without an LF there is no whole line.
pub lines_of-part : (text : List ℕ) → HasNoLf text → lines_of text ≡ []
lines_of-part [] none = refl
lines_of-part (b ∷ text) none =
    let parts = or_parts (b == 10) (list_any is_lf text) none in
    cond-false (b == 10) ([] ∷ lines_of text) (longer_by b (lines_of text)) parts.0
    ∙ ap (longer_by b) (lines_of-part text parts.1)

pub take-append : (xs ys : List ℕ) (k : ℕ) → take (length xs + k) (xs ++ ys) ≡ xs ++ take k ys
take-append [] ys k = let e : 0 + k ≡ k = omega arith in ap (λ (i : ℕ). take i ys) e
take-append (x ∷ xs) ys k =
    let e : suc (length xs) + k ≡ suc (length xs + k) = omega arith in
    ap (λ (i : ℕ). take i (x ∷ (xs ++ ys))) e ∙ ap (λ (zs : List ℕ). x ∷ zs) (take-append xs ys k)

-- The first bytes, cut in two.
pub take_split : (a b : ℕ) (xs : List ℕ) → a ≤ length xs → take (a + b) xs ≡ take a xs ++ take b (drop a xs)
take_split a b xs fits =
    let long : length (take a xs) ≡ a = length-take-le a xs fits in
    ap (take (a + b)) (sym (take-append-drop a xs))
    ∙ ap (λ (k : ℕ). take (k + b) (take a xs ++ drop a xs)) (sym long)
    ∙ take-append (take a xs) (drop a xs) b

pub take_none : (xs : List ℕ) → take 0 xs ≡ []
take_none [] = refl
take_none (x ∷ xs) = refl

-- Bytes without an LF, one part behind the other.
pub no_lf-append : (xs ys : List ℕ) → HasNoLf xs → HasNoLf ys → HasNoLf (xs ++ ys)
no_lf-append xs ys here there = list_any-append is_lf xs ys ∙ or_from (list_any is_lf xs) (list_any is_lf ys) here there

-- the first LF of the bytes stands at i
pub record IsLineAt (bytes : List ℕ) (i : ℕ) : Type 0 where
  pub within : i < length bytes
  pub none_before : HasNoLf (take i bytes)
  pub here : get_or bytes i 0 ≡ 10

pub line_at : (bytes : List ℕ) (i : ℕ) → position is_lf bytes ≡ Some i → IsLineAt bytes i
line_at bytes i at =
    let found = position-Some is_lf bytes i 0 at in
    let long : length (take i bytes) ≡ i = length-take-le i bytes (omega arith) in
    record {
      within = found.0;
      none_before = list_any_none is_lf (take i bytes) (λ k d below.
          let before : k < i = omega arith in
          ap is_lf (get_or-take i bytes k d before) ∙ (position-Some is_lf bytes i d at).2 k before);
      here = eqb-true (get_or bytes i 0) 10 found.1;
    }

-- The same of bytes that go on behind the first w.
pub line_at-take : (w : ℕ) (bytes : List ℕ) (i : ℕ) → IsLineAt (take w bytes) i → IsLineAt bytes i
line_at-take w bytes i line =
    let e = length-take w bytes in
    let below : i < w = omega (arith, line.within) in
    record {
      within = omega (arith, line.within);
      none_before = ap (list_any is_lf) (sym (take-take i w bytes (omega arith))) ∙ line.none_before;
      here = sym (get_or-take w bytes i 0 below) ∙ line.here;
    }

-- A line, its LF and the rest are the bytes.
pub line_cut : (bytes : List ℕ) (i : ℕ) → IsLineAt bytes i → take i bytes ++ 10 ∷ drop (i + 1) bytes ≡ bytes
line_cut bytes i line =
    sym (ap (λ (xs : List ℕ). take i bytes ++ xs) (drop_more bytes i 0 line.within ∙ ap (λ (b : ℕ). b ∷ drop (i + 1) bytes) line.here))
    ∙ take-append-drop i bytes

pub no_line : (bytes : List ℕ) → position is_lf bytes ≡ None → HasNoLf bytes
no_line bytes none =
    let past : length bytes ≤ position_or_len is_lf bytes =
    elim (cases_Bool (nat_lt (position_or_len is_lf bytes) (length bytes))) [
      | inl is ↦ absurd (let e = rw is at none in cc)
      | inr not ↦ ltb-false (position_or_len is_lf bytes) (length bytes) not
    ] in
    list_any_none is_lf bytes (λ k d below. fails_before_first is_lf bytes k d (omega arith))
