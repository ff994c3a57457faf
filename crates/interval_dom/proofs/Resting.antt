-- The mark at which an end comes to rest.
use Rattle.std.proofs.Common.{◌≡◌, ℕ, ◌-◌, ◌<◌, ◌≤◌, ℤ, ◌≤ℤ◌, Bool, true, false, List, length, get_or, arith, refl, sym, subst, inl, inr}
use Rattle.std.specs.Prelude.{IsSorted, All, Contains, filter, int_le, int_lt}
use Rattle.std.specs.Ordering.{int_cmp}
use Rattle.std.specs.List.Sorted.{IsPartitionPoint}
use Rattle.std.proofs.lemmas.Bool.{cases_lt}
use Rattle.std.proofs.lemmas.Int.{ints, fold-int_max_bounds, fold-int_max_reached, fold-int_min_bounds, fold-int_min_reached}
use Rattle.std.proofs.lemmas.List.{get_or_default}
use Rattle.std.proofs.lemmas.List.Elements.{All-contains, All-filter, All-contains_itself}
use Rattle.interval_dom.specs.declared.width.Width.TheVariants.{W64}
use Rattle.interval_dom.specs.Ranges.{least, greatest}
use Rattle.interval_dom.specs.Marks.{mark_below, mark_above, HasMarkBelow, HasMarkAbove}
use Rattle.interval_dom.proofs.Ascending.{get_or-ascending, All-from_filter, All-filter_passing}

antisym_le : (x y : ℤ) → x ≤ℤ y → y ≤ℤ x → x ≡ y
antisym_le x y p q = grind (arith, ints)

true_or_false : {b : Bool} → b ≡ true → b ≡ false → ⊥
true_or_false p q = cc

-- the fold is at most what bounds the start and each mark that passes
mark_below-le : (marks : List ℤ) (n top : ℤ) → least W64 ≤ℤ top → All (λ m. int_le m n ≡ true → m ≤ℤ top) marks → mark_below marks n ≤ℤ top
mark_below-le marks n top start each = elim (fold-int_max_reached (least W64) (filter (λ m. int_le m n) marks) (mark_below marks n) refl) [
  | inl first ↦ subst (λ (r : ℤ). r ≤ℤ top) (sym first) start
  | inr one ↦ All-contains (λ m. m ≤ℤ top) (filter (λ m. int_le m n) marks) (mark_below marks n) (All-filter_passing (λ m. m ≤ℤ top) (λ m. int_le m n) marks each) one
]

-- and at least each mark that passes
pub mark_below-ge : (marks : List ℤ) (n : ℤ) → All (λ m. int_le m n ≡ true → m ≤ℤ mark_below marks n) marks
mark_below-ge marks n = All-from_filter (λ m. m ≤ℤ mark_below marks n) (λ m. int_le m n) marks (fold-int_max_bounds (least W64) (filter (λ m. int_le m n) marks) (mark_below marks n) refl).1

mark_above-ge : (marks : List ℤ) (n low : ℤ) → low ≤ℤ greatest W64 → All (λ m. int_le n m ≡ true → low ≤ℤ m) marks → low ≤ℤ mark_above marks n
mark_above-ge marks n low start each = elim (fold-int_min_reached (greatest W64) (filter (λ m. int_le n m) marks) (mark_above marks n) refl) [
  | inl first ↦ subst (λ (r : ℤ). low ≤ℤ r) (sym first) start
  | inr one ↦ All-contains (λ m. low ≤ℤ m) (filter (λ m. int_le n m) marks) (mark_above marks n) (All-filter_passing (λ m. low ≤ℤ m) (λ m. int_le n m) marks each) one
]

pub mark_above-le : (marks : List ℤ) (n : ℤ) → All (λ m. int_le n m ≡ true → mark_above marks n ≤ℤ m) marks
mark_above-le marks n = All-from_filter (λ m. mark_above marks n ≤ℤ m) (λ m. int_le n m) marks (fold-int_min_bounds (greatest W64) (filter (λ m. int_le n m) marks) (mark_above marks n) refl).1

-- the last of the marks that are at most n, where the marks from p on are above it
pub mark_below-last : (marks : List ℤ) (n d : ℤ) (p : ℕ) → IsSorted int_cmp marks → IsPartitionPoint (λ m. int_le m n ≡ true) (λ m. int_le m n ≡ false) marks p → 0 < p → p ≤ length marks → least W64 ≤ℤ get_or marks (p - 1) d → get_or marks (p - 1) d ≡ mark_below marks n
mark_below-last marks n d p sorted point some within start =
    antisym_le _ _
    (mark_below-ge marks n (p - 1) d (omega arith) (point.0 (p - 1) d (omega arith) (omega arith)))
    (mark_below-le marks n (get_or marks (p - 1) d) start (λ k e inside passes. elim (cases_lt k p) [
      | inl before ↦ subst (λ (r : ℤ). r ≤ℤ get_or marks (p - 1) d) (get_or_default marks k d e inside) (get_or-ascending marks sorted k (p - 1) d (omega arith) (omega arith))
      | inr after ↦ absurd (true_or_false passes (point.1 k e after inside))
    ]))

-- where the first mark is above n
pub mark_below-none : (marks : List ℤ) (n : ℤ) → IsPartitionPoint (λ m. int_le m n ≡ true) (λ m. int_le m n ≡ false) marks 0 → least W64 ≡ mark_below marks n
mark_below-none marks n point =
    antisym_le _ _
    (fold-int_max_bounds (least W64) (filter (λ m. int_le m n) marks) (mark_below marks n) refl).0
    (mark_below-le marks n (least W64) (omega (arith, ints)) (λ k e inside passes. absurd (true_or_false passes (point.1 k e (omega arith) inside))))

not_lt : (m n : ℤ) → int_lt m n ≡ false → int_le n m ≡ true
not_lt m n h = grind (arith, ints)

is_lt : (m n : ℤ) → int_lt m n ≡ true → int_le n m ≡ false
is_lt m n h = grind (arith, ints)

-- the first of the marks that are at least n, where the marks before p are below it
pub mark_above-first : (marks : List ℤ) (n d : ℤ) (p : ℕ) → IsSorted int_cmp marks → IsPartitionPoint (λ m. int_lt m n ≡ true) (λ m. int_lt m n ≡ false) marks p → p < length marks → get_or marks p d ≤ℤ greatest W64 → get_or marks p d ≡ mark_above marks n
mark_above-first marks n d p sorted point within start =
    antisym_le _ _
    (mark_above-ge marks n (get_or marks p d) start (λ k e inside passes. elim (cases_lt k p) [
      | inl before ↦ absurd (true_or_false passes (is_lt (get_or marks k e) n (point.0 k e (omega arith) before)))
      | inr after ↦ subst (λ (r : ℤ). get_or marks p d ≤ℤ r) (get_or_default marks k d e inside) (get_or-ascending marks sorted p k d after inside)
    ]))
    (mark_above-le marks n p d within (not_lt (get_or marks p d) n (point.1 p d (omega arith) within)))

-- where no mark is at least n
pub mark_above-none : (marks : List ℤ) (n : ℤ) (p : ℕ) → length marks ≤ p → IsPartitionPoint (λ m. int_lt m n ≡ true) (λ m. int_lt m n ≡ false) marks p → greatest W64 ≡ mark_above marks n
mark_above-none marks n p all point =
    antisym_le _ _
    (mark_above-ge marks n (greatest W64) (omega (arith, ints)) (λ k e inside passes. absurd (true_or_false passes (is_lt (get_or marks k e) n (point.0 k e (omega arith) (omega arith))))))
    (fold-int_min_bounds (greatest W64) (filter (λ m. int_le n m) marks) (mark_above marks n) refl).0

test_below : (m n : ℤ) → int_le m n ≡ true → m ≤ℤ n
test_below m n h = grind (arith, ints)

test_above : (m n : ℤ) → int_le n m ≡ true → n ≤ℤ m
test_above m n h = grind (arith, ints)

-- the mark lies on the outer side of n
pub mark_below-outside : (marks : List ℤ) (n : ℤ) → least W64 ≤ℤ n → mark_below marks n ≤ℤ n
mark_below-outside marks n start = mark_below-le marks n n start (λ k e inside passes. test_below _ n passes)

pub mark_above-outside : (marks : List ℤ) (n : ℤ) → n ≤ℤ greatest W64 → n ≤ℤ mark_above marks n
mark_above-outside marks n start = mark_above-ge marks n n start (λ k e inside passes. test_above _ n passes)

of_filter : (t : ℤ → Bool) (marks : List ℤ) (m : ℤ) → Contains (filter t marks) m → Contains marks m
of_filter t marks m one = All-contains (Contains marks) (filter t marks) m (All-filter t (Contains marks) marks (All-contains_itself marks)) one

le_test : (m n : ℤ) → m ≤ℤ n → int_le m n ≡ true
le_test m n h = grind (arith, ints)

-- where there is such a mark, the end comes to rest on one
pub Contains-mark_below : (marks : List ℤ) (n : ℤ) → HasMarkBelow marks n → Contains marks (mark_below marks n)
Contains-mark_below marks n (m, one, (start, below)) = elim (fold-int_max_reached (least W64) (filter (λ k. int_le k n) marks) (mark_below marks n) refl) [
  | inl first ↦
      (let least_is : m ≤ℤ mark_below marks n = All-contains (λ k. int_le k n ≡ true → k ≤ℤ mark_below marks n) marks m (mark_below-ge marks n) one (le_test m n below) in
      let same : m ≡ mark_below marks n = antisym_le _ _ least_is (subst (λ (r : ℤ). r ≤ℤ m) (sym first) start) in
      subst (Contains marks) same one)
  | inr kept ↦ of_filter (λ k. int_le k n) marks (mark_below marks n) kept
]

pub Contains-mark_above : (marks : List ℤ) (n : ℤ) → HasMarkAbove marks n → Contains marks (mark_above marks n)
Contains-mark_above marks n (m, one, (above, end)) = elim (fold-int_min_reached (greatest W64) (filter (λ k. int_le n k) marks) (mark_above marks n) refl) [
  | inl first ↦
      (let most_is : mark_above marks n ≤ℤ m = All-contains (λ k. int_le n k ≡ true → mark_above marks n ≤ℤ k) marks m (mark_above-le marks n) one (le_test n m above) in
      let same : m ≡ mark_above marks n = antisym_le _ _ (subst (λ (r : ℤ). m ≤ℤ r) (sym first) end) most_is in
      subst (Contains marks) same one)
  | inr kept ↦ of_filter (λ k. int_le n k) marks (mark_above marks n) kept
]

-- no mark on the outer side of n stands between n and the mark of rest
pub mark_below-within : (marks : List ℤ) (n m : ℤ) → Contains marks m → m ≤ℤ n → m ≤ℤ mark_below marks n
mark_below-within marks n m one below = All-contains (λ k. int_le k n ≡ true → k ≤ℤ mark_below marks n) marks m (mark_below-ge marks n) one (le_test m n below)

pub mark_above-within : (marks : List ℤ) (n m : ℤ) → Contains marks m → n ≤ℤ m → mark_above marks n ≤ℤ m
mark_above-within marks n m one above = All-contains (λ k. int_le n k ≡ true → mark_above marks n ≤ℤ k) marks m (mark_above-le marks n) one (le_test n m above)
