-- Intervals that stay within a width, and the order of an interval and the one that raised it.
use Rattle.std.proofs.Common.{◌≡◌, ℤ, ◌≤ℤ◌, true, false, List, arith, refl, ◌⊎◌, inl, inr, true≢false}
use Rattle.std.specs.Prelude.{Contains, filter, int_le, int_lt}
use Rattle.std.proofs.lemmas.Bool.{cases_Bool, cond_both, and_parts}
use Rattle.std.proofs.lemmas.Int.{ints, fold-int_max_bounds, fold-int_min_bounds}
use Rattle.std.proofs.lemmas.List.Elements.{All-contains}
use Rattle.interval_dom.specs.declared.width.Width.{Width}
use Rattle.interval_dom.specs.declared.width.Width.TheVariants.{W32, W64}
use Rattle.interval_dom.specs.Bounds.{Bounds, Covers, covers, hull}
use Rattle.interval_dom.specs.Ranges.{least, greatest, full, fitted}
use Rattle.interval_dom.specs.Marks.{mark_below, mark_above, widened}
use Rattle.interval_dom.proofs.Resting.{mark_below-ge, mark_above-le, mark_below-outside, mark_above-outside}

le_trans : (x y z : ℤ) → x ≤ℤ y → y ≤ℤ z → x ≤ℤ z
le_trans x y z p q = omega (arith, ints)

test_passes : (x y : ℤ) → x ≤ℤ y → int_le x y ≡ true
test_passes x y h = grind (arith, ints)

test_means : (x y : ℤ) → int_le x y ≡ true → x ≤ℤ y
test_means x y h = grind (arith, ints)

not_below : (x y : ℤ) → int_lt y x ≡ false → x ≤ℤ y
not_below x y h = grind (arith, ints)

pub Covers-refl : (x : Bounds) → Covers x x
Covers-refl x = (omega (arith, ints), omega (arith, ints))

pub Covers-trans : (x y z : Bounds) → Covers x y → Covers y z → Covers x z
Covers-trans x y z first second = (le_trans x.lo y.lo z.lo first.0 second.0, le_trans z.hi y.hi x.hi second.1 first.1)

pub Covers-from_test : (x y : Bounds) → covers x y ≡ true → Covers x y
Covers-from_test x y passes =
    let parts = and_parts (int_le x.lo y.lo) (int_le y.hi x.hi) passes in
    (test_means x.lo y.lo parts.0, test_means y.hi x.hi parts.1)

-- an interval covers another, or doesn't
pub cases_Covers : (x y : Bounds) → Covers x y ⊎ (Covers x y → ⊥)
cases_Covers x y = elim (cases_Bool (covers x y)) [
  | inl passes ↦ inl (Covers-from_test x y passes)
  | inr fails ↦ inr (λ both. let low = test_passes x.lo y.lo both.0 in let high = test_passes y.hi x.hi both.1 in true≢false (rw (low, high) at fails))
]

-- the numbers of a width are numbers of 64 bits
pub Covers-wide : (w : Width) (x : Bounds) → Covers (full w) x → Covers (full W64) x
Covers-wide W32 x within = (omega (arith, ints), omega (arith, ints))
Covers-wide W64 x within = within

pub fitted-within : (w : Width) (x : Bounds) → Covers (full w) (fitted w x)
fitted-within w x = cond_both (covers (full w) x) x (full w) (λ (r : Bounds). Covers (full w) r) (λ passes. Covers-from_test (full w) x passes) (λ fails. Covers-refl (full w))

pub hull-within : (w : Width) (x y : Bounds) → Covers (full w) x → Covers (full w) y → Covers (full w) (hull x y)
hull-within w x y left right = (
  cond_both (int_lt y.lo x.lo) y.lo x.lo (λ r. least w ≤ℤ r) (λ _. right.0) (λ _. left.0),
  cond_both (int_lt y.hi x.hi) x.hi y.hi (λ r. r ≤ℤ greatest w) (λ _. left.1) (λ _. right.1),
)

-- the ends of the width are marks, where they aren't the ends of all numbers
abbrev pub HasEnds : List ℤ → Width → Type 0
HasEnds marks W32 = Contains marks (least W32) × Contains marks (greatest W32)
HasEnds marks W64 = Unit {0}

pub mark_below-within : (w : Width) (marks : List ℤ) (n : ℤ) → HasEnds marks w → least w ≤ℤ n → least w ≤ℤ mark_below marks n
mark_below-within W32 marks n ends inside =
    All-contains (λ m. int_le m n ≡ true → m ≤ℤ mark_below marks n) marks (least W32) (mark_below-ge marks n) ends.0 (test_passes (least W32) n inside)
mark_below-within W64 marks n ends inside = (fold-int_max_bounds (least W64) (filter (λ m. int_le m n) marks) (mark_below marks n) refl).0

pub mark_above-within : (w : Width) (marks : List ℤ) (n : ℤ) → HasEnds marks w → n ≤ℤ greatest w → mark_above marks n ≤ℤ greatest w
mark_above-within W32 marks n ends inside =
    All-contains (λ m. int_le n m ≡ true → mark_above marks n ≤ℤ m) marks (greatest W32) (mark_above-le marks n) ends.1 (test_passes n (greatest W32) inside)
mark_above-within W64 marks n ends inside = (fold-int_min_bounds (greatest W64) (filter (λ m. int_le n m) marks) (mark_above marks n) refl).0

pub widened-within : (w : Width) (marks : List ℤ) (x y : Bounds) → HasEnds marks w → Covers (full w) x → Covers (full w) y → Covers (full w) (widened x y marks)
widened-within w marks x y ends old new = (
  cond_both (int_lt y.lo x.lo) (mark_below marks y.lo) x.lo (λ r. least w ≤ℤ r) (λ _. mark_below-within w marks y.lo ends new.0) (λ _. old.0),
  cond_both (int_lt x.hi y.hi) (mark_above marks y.hi) x.hi (λ r. r ≤ℤ greatest w) (λ _. mark_above-within w marks y.hi ends new.1) (λ _. old.1),
)

-- what is raised by an interval of numbers of 64 bits covers it
pub widened-bounds : (marks : List ℤ) (x y : Bounds) → Covers (full W64) y → Covers (widened x y marks) y
widened-bounds marks x y wide = (
  cond_both (int_lt y.lo x.lo) (mark_below marks y.lo) x.lo (λ r. r ≤ℤ y.lo) (λ _. mark_below-outside marks y.lo wide.0) (λ still. not_below x.lo y.lo still),
  cond_both (int_lt x.hi y.hi) (mark_above marks y.hi) x.hi (λ r. y.hi ≤ℤ r) (λ _. mark_above-outside marks y.hi wide.1) (λ still. not_below y.hi x.hi still),
)
