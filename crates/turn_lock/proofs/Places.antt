-- Lists of places.
use Rattle.std.proofs.Common.{◌≡◌, ◌⊎◌, ℕ, zero, suc, ◌<◌, nat_le, List, [], ◌∷◌, ◌++◌, refl, sym, subst, inl, inr, ⊎_elim, arith}
use Rattle.std.specs.List.{All, AllPairs, Contains}
use Rattle.std.proofs.lemmas.Bool.Decides.{nat_tests}
use Rattle.std.proofs.lemmas.List.Elements.{All-append, Contains-append_cases}
use Rattle.std.proofs.lemmas.List.Kept.{AllPairs-cons}
use Rattle.std.proofs.lemmas.List.Quantifiers.{all_pairs_push}
use Rattle.turn_lock.specs.Lists.{put_in, merged}
use Rattle.turn_lock.proofs.Prefixes.{by_test}

pub contains_none : (k : ℕ) → Contains [] k → ⊥
contains_none k h = let lt = h.1 in omega arith

pub contains_one : (n k : ℕ) → Contains (n ∷ []) k → k ≡ n
contains_one n k (zero, lt, e) = sym e
contains_one n k (suc i, lt, e) = absurd (omega arith)

pub one_contains : (n : ℕ) → Contains (n ∷ []) n
one_contains n = (0, omega arith, refl)

-- what holds of all holds of one that is there
pub all_at : {X : Type 0} (P : X → Type 0) (xs : List X) (x : X) → All P xs → Contains xs x → P x
all_at P xs x h c = subst P c.2 (h c.0 x c.1)

pub all_none : {X : Type 0} (P : X → Type 0) → All P []
all_none P k d lt = absurd (omega arith)

pub all_one : {X : Type 0} (P : X → Type 0) (x : X) → P x → All P (x ∷ [])
all_one P x h zero d lt = h
all_one P x h (suc k) d lt = absurd (omega arith)

pub all_implied : {X : Type 0} (P Q : X → Type 0) → ((x : X) → P x → Q x) → (xs : List X) → All P xs → All Q xs
all_implied P Q f xs h k d lt = f _ (h k d lt)

pub all_snoc : {X : Type 0} (P : X → Type 0) (xs : List X) (x : X) → All P xs → P x → All P (xs ++ x ∷ [])
all_snoc P xs x h p = All-append P xs (x ∷ []) h (all_one P x p)

pub pairs_none : {X : Type 0} (R : X → X → Type 0) → AllPairs R []
pairs_none R i j d lt within = absurd (omega arith)

pub pairs_snoc : {X : Type 0} (R : X → X → Type 0) (xs : List X) (x : X) → AllPairs R xs → All (λ y. R y x) xs → AllPairs R (xs ++ x ∷ [])
pairs_snoc R xs x h p = all_pairs_push R xs x h p

all_cons : {X : Type 0} (P : X → Type 0) (x : X) (xs : List X) → P x → All P xs → All P (x ∷ xs)
all_cons P x xs p h zero d lt = p
all_cons P x xs p h (suc k) d lt = h k d (omega arith)

all_tail : {X : Type 0} (P : X → Type 0) (x : X) (xs : List X) → All P (x ∷ xs) → All P xs
all_tail P x xs h k d lt = h (suc k) d (omega arith)

pairs_head : {X : Type 0} (R : X → X → Type 0) (x : X) (xs : List X) → AllPairs R (x ∷ xs) → All (R x) xs
pairs_head R x xs h k d lt = h zero (suc k) d (omega arith) (omega arith)

pairs_tail : {X : Type 0} (R : X → X → Type 0) (x : X) (xs : List X) → AllPairs R (x ∷ xs) → AllPairs R xs
pairs_tail R x xs h i j d lt within = h (suc i) (suc j) d (omega arith) (omega arith)

contains_head : {X : Type 0} (x : X) (xs : List X) → Contains (x ∷ xs) x
contains_head x xs = (zero, omega arith, refl)

contains_tail : {X : Type 0} (x : X) (xs : List X) (y : X) → Contains xs y → Contains (x ∷ xs) y
contains_tail x xs y c = let lt = c.1 in (suc c.0, omega arith, c.2)

-- a number put in is there, with all that was there, and nothing else is
put_in_new : (n : ℕ) (xs : List ℕ) → Contains (put_in n xs) n
put_in_new n [] = contains_head n []
put_in_new n (x ∷ xs) = by_test (nat_le n x) (λ l. Contains l n) (x ∷ put_in n xs) (n ∷ x ∷ xs) (λ _. contains_head n (x ∷ xs)) (λ _. contains_tail x (put_in n xs) n (put_in_new n xs))

put_in_old : (n : ℕ) (xs : List ℕ) (k : ℕ) → Contains xs k → Contains (put_in n xs) k
put_in_old n [] k c = absurd (contains_none k c)
put_in_old n (x ∷ xs) k c = by_test (nat_le n x) (λ l. Contains l k) (x ∷ put_in n xs) (n ∷ x ∷ xs)
    (λ _. contains_tail n (x ∷ xs) k c)
    (λ _. ⊎_elim (λ (a : Contains (x ∷ []) k). subst (Contains (x ∷ put_in n xs)) (sym (contains_one x k a)) (contains_head x (put_in n xs)))
    (λ (b : Contains xs k). contains_tail x (put_in n xs) k (put_in_old n xs k b)) (Contains-append_cases (x ∷ []) xs k c))

put_in_cases : (n : ℕ) (xs : List ℕ) (k : ℕ) → Contains (put_in n xs) k → (k ≡ n) ⊎ Contains xs k
put_in_cases n [] k c = inl (contains_one n k c)
put_in_cases n (x ∷ xs) k there = by_test (nat_le n x) (λ l. Contains l k → (k ≡ n) ⊎ Contains (x ∷ xs) k) (x ∷ put_in n xs) (n ∷ x ∷ xs)
    (λ _ c. ⊎_elim (λ (a : Contains (n ∷ []) k). inl (contains_one n k a)) (λ (b : Contains (x ∷ xs) k). inr b) (Contains-append_cases (n ∷ []) (x ∷ xs) k c))
    (λ _ c. ⊎_elim (λ (a : Contains (x ∷ []) k). inr (subst (Contains (x ∷ xs)) (sym (contains_one x k a)) (contains_head x xs)))
    (λ (b : Contains (put_in n xs) k). ⊎_elim (λ (e : k ≡ n). inl e) (λ (d : Contains xs k). inr (contains_tail x xs k d)) (put_in_cases n xs k b))
    (Contains-append_cases (x ∷ []) (put_in n xs) k c)) there

all_put_in : (P : ℕ → Type 0) (n : ℕ) (xs : List ℕ) → P n → All P xs → All P (put_in n xs)
all_put_in P n [] p h = all_one P n p
all_put_in P n (x ∷ xs) p h = by_test (nat_le n x) (All P) (x ∷ put_in n xs) (n ∷ x ∷ xs) (λ _. all_cons P n (x ∷ xs) p h)
    (λ _. all_cons P x (put_in n xs) (h zero x (omega arith)) (all_put_in P n xs p (all_tail P x xs h)))

abbrev pub IsAscending : List ℕ → Type 0
IsAscending = AllPairs (λ a b. a < b)

ascending_put_in : (n : ℕ) (xs : List ℕ) → IsAscending xs → (Contains xs n → ⊥) → IsAscending (put_in n xs)
ascending_put_in n [] h new = AllPairs-cons (λ (a b : ℕ). a < b) n [] (all_none (λ (k : ℕ). n < k)) h
ascending_put_in n (x ∷ xs) h new =
    let other : n ≡ x → ⊥ = (λ e. new (subst (Contains (x ∷ xs)) (sym e) (contains_head x xs))) in
    let rest : All (λ (k : ℕ). x < k) xs = pairs_head (λ (a b : ℕ). a < b) x xs h in by_test (nat_le n x) IsAscending (x ∷ put_in n xs) (n ∷ x ∷ xs)
    (λ e. let lt : n < x = grind (arith, nat_tests) in
    AllPairs-cons (λ (a b : ℕ). a < b) n (x ∷ xs) (all_cons (λ (k : ℕ). n < k) x xs lt (all_implied (λ (k : ℕ). x < k) (λ (k : ℕ). n < k) (λ k l. omega arith) xs rest)) h)
    (λ e. let lt : x < n = grind (arith, nat_tests) in
    AllPairs-cons (λ (a b : ℕ). a < b) x (put_in n xs) (all_put_in (λ (k : ℕ). x < k) n xs lt rest)
    (ascending_put_in n xs (pairs_tail (λ (a b : ℕ). a < b) x xs h) (λ c. new (contains_tail x xs n c))))

pub merged_first : (xs ys : List ℕ) (k : ℕ) → Contains xs k → Contains (merged xs ys) k
merged_first [] ys k c = absurd (contains_none k c)
merged_first (x ∷ xs) ys k c = ⊎_elim (λ (a : Contains (x ∷ []) k). subst (Contains (put_in x (merged xs ys))) (sym (contains_one x k a)) (put_in_new x (merged xs ys)))
    (λ (b : Contains xs k). put_in_old x (merged xs ys) k (merged_first xs ys k b)) (Contains-append_cases (x ∷ []) xs k c)

pub merged_second : (xs ys : List ℕ) (k : ℕ) → Contains ys k → Contains (merged xs ys) k
merged_second [] ys k c = c
merged_second (x ∷ xs) ys k c = put_in_old x (merged xs ys) k (merged_second xs ys k c)

pub merged_cases : (xs ys : List ℕ) (k : ℕ) → Contains (merged xs ys) k → Contains xs k ⊎ Contains ys k
merged_cases [] ys k c = inr c
merged_cases (x ∷ xs) ys k c = ⊎_elim (λ (e : k ≡ x). inl (subst (Contains (x ∷ xs)) (sym e) (contains_head x xs)))
    (λ (d : Contains (merged xs ys) k). ⊎_elim (λ (a : Contains xs k). inl (contains_tail x xs k a)) (λ (b : Contains ys k). inr b) (merged_cases xs ys k d))
    (put_in_cases x (merged xs ys) k c)

pub all_merged : (P : ℕ → Type 0) (xs ys : List ℕ) → All P xs → All P ys → All P (merged xs ys)
all_merged P [] ys p q = q
all_merged P (x ∷ xs) ys p q = all_put_in P x (merged xs ys) (p zero x (omega arith)) (all_merged P xs ys (all_tail P x xs p) q)

-- two ascending lists without a number in common are merged into an ascending one
pub ascending_merged : (xs ys : List ℕ) → IsAscending xs → IsAscending ys → ((k : ℕ) → Contains xs k → Contains ys k → ⊥) → IsAscending (merged xs ys)
ascending_merged [] ys p q apart = q
ascending_merged (x ∷ xs) ys p q apart =
    ascending_put_in x (merged xs ys) (ascending_merged xs ys (pairs_tail (λ (a b : ℕ). a < b) x xs p) q (λ k a b. apart k (contains_tail x xs k a) b))
    (λ c. ⊎_elim (λ (a : Contains xs x). let lt : x < x = all_at (λ (k : ℕ). x < k) xs x (pairs_head (λ (a b : ℕ). a < b) x xs p) a in omega arith)
    (λ (b : Contains ys x). apart x (contains_head x xs) b) (merged_cases xs ys x c))
