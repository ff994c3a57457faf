-- Fronts of a text: the longest one that passes a test, and two of one length.
use Rattle.std.proofs.Common.{◌≡◌, ℕ, suc, ◌+◌, ◌≤◌, Bool, true, false, List, [], ◌∷◌, ◌++◌, length, take, drop, cond, refl, sym, ap, ◌∙◌, arith}
use Rattle.std.specs.List.{list_all, prefix_len}
use Rattle.std.proofs.lemmas.Bool.{and_parts, and_from, cond-true}
use Rattle.std.proofs.lemmas.List.{take_at, take-append-drop}
use Rattle.c_lex.specs.Pieces.{Only, Begins}

-- a front that passes is no longer than the longest one that does
pub length-front-le : (test : ℕ → Bool) (q rest : List ℕ) → Only test q → length q ≤ prefix_len test (q ++ rest)
length-front-le test [] rest only = omega arith
length-front-le test (x ∷ q) rest only =
    let parts = and_parts (test x) (list_all test q) only in
    let shorter : length q ≤ prefix_len test (q ++ rest) = length-front-le test q rest parts.1 in
    let step : prefix_len test (x ∷ (q ++ rest)) ≡ 1 + prefix_len test (q ++ rest) = cond-true (test x) (1 + prefix_len test (q ++ rest)) 0 parts.0 in
    omega arith

-- the longest front that passes does
pub Only-take : (test : ℕ → Bool) (xs : List ℕ) → Only test (take (prefix_len test xs) xs)
Only-take test [] = refl
Only-take test (x ∷ xs) = pass (Only-take test xs) (test x) refl
  where
    pass : Only test (take (prefix_len test xs) xs) → (b : Bool) → test x ≡ b → Only test (take (cond b (1 + prefix_len test xs) 0) (x ∷ xs))
    pass rest true e =
        let n : 1 + prefix_len test xs ≡ suc (prefix_len test xs) = omega arith in
        rw n (and_from (test x) (list_all test (take (prefix_len test xs) xs)) e rest)
    pass rest false e = refl

-- fronts of one length are one
pub same_front : (p q text : List ℕ) → Begins p text → Begins q text → length p ≡ length q → p ≡ q
same_front p q text (r, e) (s, f) l = sym (take_at p r (length q) l) ∙ (ap (take (length q)) (e ∙ sym f) ∙ take_at q s (length q) refl)

-- the first n bytes begin the text
pub Begins-take : (text : List ℕ) (n : ℕ) → Begins (take n text) text
Begins-take text n = (drop n text, take-append-drop n text)
