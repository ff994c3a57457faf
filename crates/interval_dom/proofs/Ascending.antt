-- Ascending lists of whole numbers, and what of them passes a test.
use Rattle.std.proofs.Common.{◌≡◌, ℕ, zero, suc, ◌<◌, ◌≤◌, ℤ, ◌≤ℤ◌, Bool, true, false, cond, List, [], ◌∷◌, length, get_or, arith, refl, sym, subst, inl, inr}
use Rattle.std.specs.Prelude.{IsSorted, All, filter, int_le, int_lt}
use Rattle.std.specs.Ordering.{int_cmp, is_lt}
use Rattle.std.specs.List.Sorted.{IsPartitionedBy}
use Rattle.std.proofs.lemmas.Bool.{cases_eq}
use Rattle.std.proofs.lemmas.Int.{ints}
use Rattle.std.proofs.lemmas.List.Elements.{All-nil, All-cons, All-head, All-tail, All-filter, filter_passes}

not_below : (x y : ℤ) → is_lt (int_cmp y x) ≡ false → x ≤ℤ y
not_below x y h = grind (arith, ints)

trans_le : (x y z : ℤ) → x ≤ℤ y → y ≤ℤ z → x ≤ℤ z
trans_le x y z p q = omega (arith, ints)

-- each number is at most those after it
pub get_or-ascending : (xs : List ℤ) → IsSorted int_cmp xs → (i j : ℕ) (d : ℤ) → i ≤ j → j < length xs → get_or xs i d ≤ℤ get_or xs j d
get_or-ascending xs sorted i zero d before within =
    let same : i ≡ 0 = omega arith in
    subst (λ (k : ℕ). get_or xs k d ≤ℤ get_or xs 0 d) (sym same) (omega (arith, ints))
get_or-ascending xs sorted i (suc j) d before within = elim (cases_eq i (suc j)) [
  | inl same ↦ subst (λ (k : ℕ). get_or xs k d ≤ℤ get_or xs (suc j) d) (sym same) (omega (arith, ints))
  | inr other ↦ trans_le _ _ _ (get_or-ascending xs sorted i j d (omega arith) (omega arith)) (not_below _ _ (subst (λ (k : ℕ). is_lt (int_cmp (get_or xs k d) (get_or xs j d)) ≡ false) (omega arith) (sorted j d (omega arith) (omega arith))))
]

le_test : (x y n : ℤ) → x ≤ℤ y → int_le y n ≡ true → int_le x n ≡ true
le_test x y n p h = grind (arith, ints)

lt_test : (x y n : ℤ) → x ≤ℤ y → int_lt y n ≡ true → int_lt x n ≡ true
lt_test x y n p h = grind (arith, ints)

pub IsPartitionedBy-int_le : (xs : List ℤ) (n : ℤ) → IsSorted int_cmp xs → IsPartitionedBy (λ m. int_le m n) xs
IsPartitionedBy-int_le xs n sorted i j d before within passes = le_test _ _ n (get_or-ascending xs sorted i j d before within) passes

pub IsPartitionedBy-int_lt : (xs : List ℤ) (n : ℤ) → IsSorted int_cmp xs → IsPartitionedBy (λ m. int_lt m n) xs
IsPartitionedBy-int_lt xs n sorted i j d before within passes = lt_test _ _ n (get_or-ascending xs sorted i j d before within) passes

-- what holds of all that pass a test holds of each number that passes it, and the other way round
filtered_step : (P : ℤ → Type 0) (t : ℤ → Bool) (x : ℤ) (kept : List ℤ) (b : Bool) → t x ≡ b → All P (cond b (x ∷ kept) kept) → (t x ≡ true → P x) × All P kept
filtered_step P t x kept true e h = (λ _. All-head P x kept h, All-tail P x kept h)
filtered_step P t x kept false e h = (λ passes. absurd (cc), h)

pub All-from_filter : (P : ℤ → Type 0) (t : ℤ → Bool) (xs : List ℤ) → All P (filter t xs) → All (λ x. t x ≡ true → P x) xs
All-from_filter P t [] h = All-nil (λ x. t x ≡ true → P x)
All-from_filter P t (x ∷ xs) h =
    let parts = filtered_step P t x (filter t xs) (t x) refl h in
    All-cons (λ y. t y ≡ true → P y) x xs parts.0 (All-from_filter P t xs parts.1)

pub All-filter_passing : (P : ℤ → Type 0) (t : ℤ → Bool) (xs : List ℤ) → All (λ x. t x ≡ true → P x) xs → All P (filter t xs)
All-filter_passing P t xs h k d within =
    All-filter t (λ x. t x ≡ true → P x) xs h k d within (filter_passes t xs k d within)
