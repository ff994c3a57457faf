-- The words among the arguments, one after the other.
use Rattle.std.proofs.Common.{◌≡◌, ◌++◌, ◌+◌, ◌∙◌, ℕ, zero, suc, List, [], ◌∷◌, Option, None, Some, take, drop, refl, sym, ap, subst, arith, append_assoc}
use Rattle.std.specs.Prelude.{IfSome, slice_get}
use Rattle.std.proofs.lemmas.List.{append-nil}
use Rattle.gobpie_main.specs.Arguments.{IsWordsOf}

take_one_more : (xs : List (List ℕ)) (k : ℕ) (w : List ℕ) → Some w ≡ slice_get xs k → take k xs ++ w ∷ [] ≡ take (suc k) xs
take_one_more [] k w e = absurd (cc)
take_one_more (x ∷ xs) zero w e =
    let same : w ≡ x = cc in
    ap (λ (y : List ℕ). y ∷ []) same
take_one_more (x ∷ xs) (suc k) w e = ap (λ (ys : List (List ℕ)). x ∷ ys) (take_one_more xs k w e)

take_whole : (xs : List (List ℕ)) (k : ℕ) → None ≡ slice_get xs k → take k xs ≡ xs
take_whole [] zero e = refl
take_whole [] (suc k) e = refl
take_whole (x ∷ xs) zero e = absurd (cc)
take_whole (x ∷ xs) (suc k) e = ap (λ (ys : List (List ℕ)). x ∷ ys) (take_whole xs k e)

-- the words so far follow the name in the first `place` arguments
abbrev pub ReadSoFar : Option (List (List ℕ)) → ℕ → List (List ℕ) → Type 0
ReadSoFar told place words = IfSome told (λ all. take 1 all ++ words ≡ take place all)

pub none_yet : (told : Option (List (List ℕ))) → ReadSoFar told 1 []
none_yet None = tt
none_yet (Some all) = append-nil (take 1 all)

pub one_more : (told : Option (List (List ℕ))) (place : ℕ) (words : List (List ℕ)) (w : List ℕ) → ReadSoFar told place words → IfSome told (λ all. Some w ≡ slice_get all place) → ReadSoFar told (place + 1) (words ++ w ∷ [])
one_more None place words w so_far next = tt
one_more (Some all) place words w so_far next =
    let after : suc place ≡ place + 1 = omega arith in
    subst (λ (n : ℕ). take 1 all ++ (words ++ w ∷ []) ≡ take n all) after
    (sym (append_assoc (take 1 all) words (w ∷ [])) ∙ ap (λ (ys : List (List ℕ)). ys ++ w ∷ []) so_far ∙ take_one_more all place w next)

pub no_more : (told : Option (List (List ℕ))) (place : ℕ) (words : List (List ℕ)) → ReadSoFar told place words → IfSome told (λ all. None ≡ slice_get all place) → IsWordsOf told words
no_more None place words so_far next = tt
no_more (Some all) place words so_far next = go all (so_far ∙ take_whole all place next)
  where
    go : (all : List (List ℕ)) → take 1 all ++ words ≡ all → words ≡ drop 1 all
    go [] e = e
    go (x ∷ xs) e = cc

-- the words, where the arguments are told; else any
abbrev pub words_told : Option (List (List ℕ)) → List (List ℕ)
words_told None = []
words_told (Some all) = drop 1 all

pub words_told_are : (told : Option (List (List ℕ))) → IsWordsOf told (words_told told)
words_told_are None = tt
words_told_are (Some all) = refl
