-- Beginnings of one list.
use Rattle.std.proofs.Common.{Bool, true, false, max, nat_le, if◌then◌else◌, ◌≡◌, ℕ, zero, suc, ◌≤◌, List, [], ◌∷◌, ◌++◌, length, Some, slice_get, refl, ap, sym, ◌∙◌, subst, append-nil, arith, append_assoc, length-append}
use Rattle.std.proofs.lemmas.Bool.Decides.{nat_tests}
use mathlib.Core.List.{IsPrefix}
use Rattle.turn_lock.specs.Lists.{longer}

pub prefix_self : {A : Type 0} (xs : List A) → IsPrefix xs xs
prefix_self xs = ([], append-nil xs)

pub prefix_trans : {A : Type 0} (xs ys zs : List A) → IsPrefix xs ys → IsPrefix ys zs → IsPrefix xs zs
prefix_trans xs ys zs p q = (p.0 ++ q.0, sym (append_assoc xs p.0 q.0) ∙ (ap (λ w. w ++ q.0) p.1 ∙ q.1))

pub prefix_length : {A : Type 0} (xs ys : List A) → IsPrefix xs ys → length xs ≤ length ys
prefix_length xs ys p = omega (arith, sym (ap length p.1) ∙ length-append xs p.0)

-- a list that goes on by one element still has the beginning
pub prefix_longer : {A : Type 0} (xs ys zs : List A) (e : A) → zs ≡ ys ++ e ∷ [] → IsPrefix xs ys → IsPrefix xs zs
prefix_longer xs ys zs e is p = subst (IsPrefix xs) (sym is) (prefix_trans xs ys (ys ++ e ∷ []) p (e ∷ [], refl))

-- what stands in a beginning stands in the whole, at the same place
pub prefix_get : {A : Type 0} (xs ys : List A) (k : ℕ) (x : A) → IsPrefix xs ys → slice_get xs k ≡ Some x → slice_get ys k ≡ Some x
prefix_get [] ys k x p h = absurd cc
prefix_get (y ∷ xs) [] k x p h = absurd (cc (p.1))
prefix_get (y ∷ xs) (z ∷ ys) zero x p h = cc (p.1, h)
prefix_get (y ∷ xs) (z ∷ ys) (suc k) x p h = prefix_get xs ys k x (p.0, cc (p.1)) h

-- of two beginnings of one list the shorter begins the longer
pub prefix_shorter : {A : Type 0} (xs ys zs : List A) → IsPrefix xs zs → IsPrefix ys zs → length xs ≤ length ys → IsPrefix xs ys
prefix_shorter [] ys zs p q le = (ys, refl)
prefix_shorter (x ∷ xs) [] zs p q le = absurd (omega arith)
prefix_shorter (x ∷ xs) (y ∷ ys) [] p q le = absurd (cc (p.1))
prefix_shorter (x ∷ xs) (y ∷ ys) (z ∷ zs) p q le =
    let heads : x ≡ y = cc (p.1, q.1) in
    let rest = prefix_shorter xs ys zs (p.0, cc (p.1)) (q.0, cc (q.1)) (omega arith) in
    (rest.0, cc (heads, rest.1))

pub by_test : {X : Type 0} (b : Bool) (P : X → Type 0) (x y : X) → (b ≡ true → P y) → (b ≡ false → P x) → P (if b then y else x)
by_test true P x y f g = f refl
by_test false P x y f g = g refl

module _ {A : Type 0} (xs ys : List A) where
  -- the longer is the first or the second
  longer_case : (P : List A → Type 0) → (length xs ≤ length ys → P ys) → (length ys ≤ length xs → P xs) → P (longer xs ys)
  longer_case P f g = by_test (nat_le (length xs) (length ys)) P xs ys (λ e. f (grind (arith, nat_tests))) (λ e. g (grind (arith, nat_tests)))

  pub longer_begins : (zs : List A) → IsPrefix xs zs → IsPrefix ys zs → IsPrefix (longer xs ys) zs
  longer_begins zs p q = longer_case (λ l. IsPrefix l zs) (λ _. q) (λ _. p)

  pub longer_first : (zs : List A) → IsPrefix xs zs → IsPrefix ys zs → IsPrefix xs (longer xs ys)
  longer_first zs p q = longer_case (IsPrefix xs) (λ le. prefix_shorter xs ys zs p q le) (λ _. prefix_self xs)

  pub longer_second : (zs : List A) → IsPrefix xs zs → IsPrefix ys zs → IsPrefix ys (longer xs ys)
  longer_second zs p q = longer_case (IsPrefix ys) (λ _. prefix_self ys) (λ le. prefix_shorter ys xs zs q p le)

  pub length-longer : length (longer xs ys) ≡ max (length xs) (length ys)
  length-longer = longer_case (λ l. length l ≡ max (length xs) (length ys)) (λ le. omega arith) (λ le. omega arith)
