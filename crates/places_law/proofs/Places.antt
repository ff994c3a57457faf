-- A place behind more bytes is a later one.
use Rattle.std.proofs.Common.{◌≡◌, refl, sym, ap, ◌∙◌, subst, ℕ, suc, ◌+◌, ◌-◌, ◌≤◌, Bool, true, false, not, cond, List, [], ◌∷◌, ◌++◌, length, reverse, inl, inr, arith, append_assoc, length-drop, zero-add}
use Rattle.std.specs.List.{count_by, prefix_len, suffix_len}
use Rattle.std.proofs.lemmas.List.{reverse-append, length-reverse}
use Rattle.std.proofs.lemmas.List.Sums.{sum_by-append}
use Rattle.gob_tree.specs.declared.place.Place.{Place}
use Rattle.c_lex.specs.Pieces.{is_line_end}
use Rattle.c_lex.specs.Places.{line_before, place_after}
use Rattle.places_law.specs.Order.{IsBefore}

pub before_both : (a b c : Place) → IsBefore a b → IsBefore b c → IsBefore a c
before_both a b c (inl h) (inl g) = inl (omega (arith, h, g))
before_both a b c (inl h) (inr g) = inl (omega (arith, h, g.0))
before_both a b c (inr h) (inl g) = inl (omega (arith, h.0, g))
before_both a b c (inr h) (inr g) = inr (h.0 ∙ g.0, omega (arith, h.1, g.1))

abbrev stays : ℕ → Bool
stays x = not (is_line_end x)

fits_step : (c : Bool) (n m : ℕ) → n ≤ m → cond c (1 + n) 0 ≤ suc m
fits_step true n m h = omega arith
fits_step false n m h = omega arith

prefix_fits : (xs : List ℕ) → prefix_len stays xs ≤ length xs
prefix_fits [] = omega arith
prefix_fits (x ∷ xs) = fits_step (stays x) (prefix_len stays xs) (length xs) (prefix_fits xs)

-- the column counts the bytes behind the last line end
column_is : (b : List ℕ) → length (line_before b) ≡ suffix_len stays b
column_is b = omega (arith, length-drop (length b - suffix_len stays b) b, prefix_fits (reverse b), length-reverse b)

run_more : (b : List ℕ) (x : ℕ) → suffix_len stays (b ++ x ∷ []) ≡ cond (stays x) (1 + suffix_len stays b) 0
run_more b x = ap (prefix_len stays) (reverse-append b (x ∷ []))

lines_more : (b : List ℕ) (x : ℕ) → count_by is_line_end (b ++ x ∷ []) ≡ count_by is_line_end b + cond (is_line_end x) 1 0
lines_more b x = sum_by-append (λ (y : ℕ). cond (is_line_end y) 1 0) b (x ∷ []) ∙ ap (λ (n : ℕ). count_by is_line_end b + n) (zero-add (cond (is_line_end x) 1 0))

one_byte : (b : List ℕ) (x : ℕ) (e : Bool) → is_line_end x ≡ e → IsBefore (place_after b) (place_after (b ++ x ∷ []))
one_byte b x true at =
    let lines : count_by is_line_end (b ++ x ∷ []) ≡ count_by is_line_end b + 1 = lines_more b x ∙ ap (λ (c : Bool). count_by is_line_end b + cond c 1 0) at in
    inl (omega (arith, lines))
one_byte b x false at =
    let lines : count_by is_line_end (b ++ x ∷ []) ≡ count_by is_line_end b + 0 = lines_more b x ∙ ap (λ (c : Bool). count_by is_line_end b + cond c 1 0) at in
    let run : suffix_len stays (b ++ x ∷ []) ≡ 1 + suffix_len stays b = run_more b x ∙ ap (λ (c : Bool). cond (not c) (1 + suffix_len stays b) 0) at in
    let columns : length (line_before (b ++ x ∷ [])) ≡ 1 + length (line_before b) = column_is (b ++ x ∷ []) ∙ run ∙ ap (λ (n : ℕ). 1 + n) (sym (column_is b)) in
    inr (omega (arith, lines), omega (arith, columns))

pub grows : (b : List ℕ) (x : ℕ) (m : List ℕ) → IsBefore (place_after b) (place_after (b ++ x ∷ m))
grows b x [] = one_byte b x (is_line_end x) refl
grows b x (y ∷ m) =
    before_both (place_after b) (place_after (b ++ x ∷ [])) (place_after (b ++ x ∷ y ∷ m)) (one_byte b x (is_line_end x) refl)
    (subst (λ (l : List ℕ). IsBefore (place_after (b ++ x ∷ [])) (place_after l)) (append_assoc b (x ∷ []) (y ∷ m)) (grows (b ++ x ∷ []) y m))
