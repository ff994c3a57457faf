-- The members of a list from one on, and up to one.
use Rattle.std.proofs.Common.{◌≡◌, ℕ, suc, ◌+◌, ◌<◌, ◌≤◌, List, [], ◌∷◌, ◌++◌, length, map, take, drop, get_or, sym, ap, ◌∙◌, add-one, append_assoc}
use Rattle.std.proofs.Math.Seq.{drop-cons, take-suc}
use Rattle.std.proofs.lemmas.List.{map-append, drop_all}

pub from_here : {A : Type 0} (xs : List A) (i : ℕ) (x : A) → i < length xs → x ≡ get_or xs i x → drop i xs ≡ x ∷ drop (i + 1) xs
from_here xs i x h e =
    let a : drop i xs ≡ get_or xs i x ∷ drop (suc i) xs = drop-cons xs i x h in
    rw add-one (a ∙ ap (λ y. y ∷ drop (suc i) xs) (sym e))

up_to_here : {A : Type 0} (xs : List A) (i : ℕ) (x : A) → i < length xs → x ≡ get_or xs i x → take (i + 1) xs ≡ take i xs ++ x ∷ []
up_to_here xs i x h e =
    let a : take (suc i) xs ≡ take i xs ++ (get_or xs i x ∷ []) = take-suc xs i x h in
    rw add-one (a ∙ ap (λ y. take i xs ++ y ∷ []) (sym e))

-- one more item of a list that is made member by member
pub one_more : {A B : Type 0} (f : A → B) (xs : List A) (i : ℕ) (x : A) (list list' : List B) (y : B) → i < length xs → x ≡ get_or xs i x
    → list ≡ map f (take i xs) → list' ≡ list ++ y ∷ [] → y ≡ f x → list' ≡ map f (take (i + 1) xs)
one_more f xs i x list list' y h e made pushed is =
    pushed ∙ ap (λ ys. ys ++ y ∷ []) made ∙ ap (λ z. map f (take i xs) ++ z ∷ []) is ∙ sym (ap (map f) (up_to_here xs i x h e) ∙ map-append f (take i xs) (x ∷ []))

pub grown : {A : Type 0} (whole list list' rest : List A) (y : A) → whole ≡ list ++ (y ∷ rest) → list' ≡ list ++ y ∷ [] → whole ≡ list' ++ rest
grown whole list list' rest y e pushed = e ∙ sym (append_assoc list (y ∷ []) rest) ∙ sym (ap (λ ys. ys ++ rest) pushed)

pub nothing_behind : {A : Type 0} (xs : List A) (n : ℕ) → length xs ≤ n → drop n xs ≡ []
nothing_behind xs n h = drop_all n xs h
