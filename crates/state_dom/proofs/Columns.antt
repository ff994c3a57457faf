-- Two columns, read as a list of intervals.
use Rattle.std.proofs.Common.{◌≡◌, ◌↔◌, ℕ, zero, suc, ◌<◌, ℤ, pos, ◌≤ℤ◌, Bool, true, false, ◌&&◌, true≢false, IsTrue, cond, List, [], ◌∷◌, length, get_or, set, Some, slice_get, replicate, FitsSigned, to_z, of_z, arith, refl, sym, ap, ◌∙◌}
use Rattle.std.specs.Prelude.{int_le, int_lt}
use Rattle.std.specs.Int.{w64, int_min, int_max}
use Rattle.std.specs.Simd.Lanes.{zip2}
use Rattle.std.proofs.lemmas.Int.{ints, clamps, to_z-of_z}
use Rattle.interval_dom.specs.Bounds.{Bounds, between, hull, unless_empty}
use Rattle.lane_bounds.specs.Columns.{all_covered, all_at_most}
use Rattle.state_dom.specs.Columns.{of_columns, AreEnds, AreColumns}
use Rattle.state_dom.specs.StateValue.{CoversEach, on_each}

pub lows : (los his : List ℤ) → AreColumns los his → length (of_columns los his) ≡ length los
lows [] [] are = refl
lows [] (hi ∷ his) are = absurd are
lows (lo ∷ los) [] are = absurd are
lows (lo ∷ los) (hi ∷ his) are = ap suc (lows los his are.1)

pub highs : (los his : List ℤ) → AreColumns los his → length (of_columns los his) ≡ length his
highs [] [] are = refl
highs [] (hi ∷ his) are = absurd are
highs (lo ∷ los) [] are = absurd are
highs (lo ∷ los) (hi ∷ his) are = ap suc (highs los his are.1)

-- the interval of a place, with its ends
pub read : (los his : List ℤ) (i : ℕ) (a b : ℤ) → AreColumns los his → i < length los → AreEnds (get_or los i a) (get_or his i b) × (slice_get (of_columns los his) i ≡ Some (between (get_or los i a) (get_or his i b)))
read [] his i a b are within = absurd (omega (arith, within))
read (lo ∷ los) [] i a b are within = absurd are
read (lo ∷ los) (hi ∷ his) zero a b are within = (are.0, refl)
read (lo ∷ los) (hi ∷ his) (suc i) a b are within = read los his i a b are.1 (omega (arith, within))

pub set-columns : (los his : List ℤ) (i : ℕ) (a b : ℤ) → AreEnds a b → AreColumns los his → AreColumns (set los i a) (set his i b)
set-columns [] [] i a b ends are = tt
set-columns [] (hi ∷ his) i a b ends are = absurd are
set-columns (lo ∷ los) [] i a b ends are = absurd are
set-columns (lo ∷ los) (hi ∷ his) zero a b ends are = (ends, are.1)
set-columns (lo ∷ los) (hi ∷ his) (suc i) a b ends are = (are.0, set-columns los his i a b ends are.1)

pub of_columns-set : (los his : List ℤ) (i : ℕ) (a b : ℤ) → AreColumns los his → of_columns (set los i a) (set his i b) ≡ set (of_columns los his) i (between a b)
of_columns-set [] [] i a b are = refl
of_columns-set [] (hi ∷ his) i a b are = absurd are
of_columns-set (lo ∷ los) [] i a b are = absurd are
of_columns-set (lo ∷ los) (hi ∷ his) zero a b are = refl
of_columns-set (lo ∷ los) (hi ∷ his) (suc i) a b are = ap (λ (xs : List Bounds). between lo hi ∷ xs) (of_columns-set los his i a b are.1)

pub zeros-columns : (n : ℕ) → AreEnds (pos 0) (pos 0) → AreColumns (replicate n (pos 0)) (replicate n (pos 0))
zeros-columns zero ends = tt
zeros-columns (suc n) ends = (ends, zeros-columns n ends)

pub of_columns-zeros : (n : ℕ) → of_columns (replicate n (pos 0)) (replicate n (pos 0)) ≡ replicate n (between (pos 0) (pos 0))
of_columns-zeros zero = refl
of_columns-zeros (suc n) = ap (λ (xs : List Bounds). between (pos 0) (pos 0) ∷ xs) (of_columns-zeros n)

one-of : (b : Bool) (x y : ℤ) → FitsSigned w64 x → FitsSigned w64 y → FitsSigned w64 (cond b x y)
one-of true x y first second = first
one-of false x y first second = second

-- the lesser of two numbers, and the greater, are one of them
ends-join : (lo hi other top : ℤ) → AreEnds lo hi → AreEnds other top → AreEnds (int_min lo other) (int_max hi top)
ends-join lo hi other top are also = (one-of (int_lt other lo) other lo also.0 are.0, one-of (int_lt top hi) hi top are.1 also.1, omega (arith, ints, clamps, are.2, also.2))

-- the least columns that cover two
pub join-columns : (los his others tops : List ℤ) → AreColumns los his → AreColumns others tops → length los ≡ length others → AreColumns (zip2 int_min los others) (zip2 int_max his tops)
join-columns [] [] others tops are also same = tt
join-columns [] (hi ∷ his) others tops are also same = absurd are
join-columns (lo ∷ los) [] others tops are also same = absurd are
join-columns (lo ∷ los) (hi ∷ his) [] tops are also same = absurd (omega (arith, same))
join-columns (lo ∷ los) (hi ∷ his) (other ∷ others) [] are also same = absurd also
join-columns (lo ∷ los) (hi ∷ his) (other ∷ others) (top ∷ tops) are also same =
    (ends-join lo hi other top are.0 also.0, join-columns los his others tops are.1 also.1 (omega (arith, same)))

pub of_columns-join : (los his others tops : List ℤ) → AreColumns los his → AreColumns others tops → of_columns (zip2 int_min los others) (zip2 int_max his tops) ≡ on_each hull (of_columns los his) (of_columns others tops)
of_columns-join [] [] others tops are also = refl
of_columns-join [] (hi ∷ his) others tops are also = absurd are
of_columns-join (lo ∷ los) [] others tops are also = absurd are
of_columns-join (lo ∷ los) (hi ∷ his) [] [] are also = refl
of_columns-join (lo ∷ los) (hi ∷ his) [] (top ∷ tops) are also = absurd also
of_columns-join (lo ∷ los) (hi ∷ his) (other ∷ others) [] are also = absurd also
of_columns-join (lo ∷ los) (hi ∷ his) (other ∷ others) (top ∷ tops) are also =
    ap (λ (xs : List Bounds). hull (between lo hi) (between other top) ∷ xs) (of_columns-join los his others tops are.1 also.1)

-- a join covers both
pub hulls-left : (xs ys : List Bounds) → length xs ≡ length ys → CoversEach (on_each hull xs ys) xs
hulls-left [] ys same = tt
hulls-left (x ∷ xs) [] same = absurd (omega (arith, same))
hulls-left (x ∷ xs) (y ∷ ys) same = ((omega (arith, ints, clamps), omega (arith, ints, clamps)), hulls-left xs ys (omega (arith, same)))

pub hulls-right : (xs ys : List Bounds) → length xs ≡ length ys → CoversEach (on_each hull xs ys) ys
hulls-right [] [] same = tt
hulls-right [] (y ∷ ys) same = absurd (omega (arith, same))
hulls-right (x ∷ xs) [] same = absurd (omega (arith, same))
hulls-right (x ∷ xs) (y ∷ ys) same = ((omega (arith, ints, clamps), omega (arith, ints, clamps)), hulls-right xs ys (omega (arith, same)))

both-true : (a b : Bool) → IsTrue (a && b) → IsTrue a × IsTrue b
both-true true true is = (refl, refl)
both-true true false is = absurd (true≢false (sym is))
both-true false b is = absurd (true≢false (sym is))

are-true : (a b : Bool) → IsTrue a → IsTrue b → IsTrue (a && b)
are-true true true first second = refl
are-true true false first second = second
are-true false b first second = first

at-most : (x y : ℤ) → IsTrue (int_le x y) → x ≤ℤ y
at-most x y is = grind (arith, ints)

is-at-most : (x y : ℤ) → x ≤ℤ y → IsTrue (int_le x y)
is-at-most x y is = grind (arith, ints)

-- the comparison of columns is that of intervals
pub covers : (los his others tops : List ℤ) → AreColumns los his → AreColumns others tops → length los ≡ length others → IsTrue (all_covered los his others tops) → CoversEach (of_columns others tops) (of_columns los his)
covers [] [] [] [] are also same is = tt
covers [] (hi ∷ his) others tops are also same is = absurd are
covers (lo ∷ los) [] others tops are also same is = absurd are
covers [] [] (other ∷ others) tops are also same is = absurd (omega (arith, same))
covers [] [] [] (top ∷ tops) are also same is = absurd also
covers (lo ∷ los) (hi ∷ his) [] tops are also same is = absurd (omega (arith, same))
covers (lo ∷ los) (hi ∷ his) (other ∷ others) [] are also same is = absurd also
covers (lo ∷ los) (hi ∷ his) (other ∷ others) (top ∷ tops) are also same is =
    let halves = both-true (all_at_most (other ∷ others) (lo ∷ los)) (all_at_most (hi ∷ his) (top ∷ tops)) is in
    let low = both-true (int_le other lo) (all_at_most others los) halves.0 in
    let high = both-true (int_le hi top) (all_at_most his tops) halves.1 in
    ((at-most other lo low.0, at-most hi top high.0), covers los his others tops are.1 also.1 (omega (arith, same)) (are-true (all_at_most others los) (all_at_most his tops) low.1 high.1))

pub is-covered : (los his others tops : List ℤ) → AreColumns los his → AreColumns others tops → CoversEach (of_columns others tops) (of_columns los his) → IsTrue (all_covered los his others tops)
is-covered [] [] [] [] are also each = refl
is-covered [] (hi ∷ his) others tops are also each = absurd are
is-covered (lo ∷ los) [] others tops are also each = absurd are
is-covered [] [] (other ∷ others) [] are also each = absurd also
is-covered [] [] (other ∷ others) (top ∷ tops) are also each = absurd each
is-covered [] [] [] (top ∷ tops) are also each = absurd also
is-covered (lo ∷ los) (hi ∷ his) [] tops are also each = absurd each
is-covered (lo ∷ los) (hi ∷ his) (other ∷ others) [] are also each = absurd also
is-covered (lo ∷ los) (hi ∷ his) (other ∷ others) (top ∷ tops) are also each =
    let rest = both-true (all_at_most others los) (all_at_most his tops) (is-covered los his others tops are.1 also.1 each.1) in
    are-true (all_at_most (other ∷ others) (lo ∷ los)) (all_at_most (hi ∷ his) (top ∷ tops))
    (are-true (int_le other lo) (all_at_most others los) (is-at-most other lo each.0.0) rest.0)
    (are-true (int_le hi top) (all_at_most his tops) (is-at-most hi top each.0.1) rest.1)

-- how long the columns are that a list of intervals stands for
pub low-count : (los his : List ℤ) (xs : List Bounds) → of_columns los his ≡ xs → AreColumns los his → length los ≡ length xs
low-count los his xs is are = sym (lows los his are) ∙ ap (λ (zs : List Bounds). length zs) is

pub high-count : (los his : List ℤ) (xs : List Bounds) → of_columns los his ≡ xs → AreColumns los his → length his ≡ length xs
high-count los his xs is are = sym (highs los his are) ∙ ap (λ (zs : List Bounds). length zs) is

-- the interval of a place, where its ends are known
pub read-at : (los his : List ℤ) (i : ℕ) (a b : ℤ) → AreColumns los his → i < length los → a ≡ get_or los i a → b ≡ get_or his i b → AreEnds a b × (slice_get (of_columns los his) i ≡ Some (between a b))
read-at los his i a b are within a_is b_is =
    let there = read los his i a b are within in
    (rw (a_is, b_is) there.0, there.1 ∙ ap (λ (z : ℤ). Some (between z (get_or his i b))) (sym a_is) ∙ ap (λ (z : ℤ). Some (between a z)) (sym b_is))

-- two ends make an interval
pub made : (a b : ℤ) → AreEnds a b → unless_empty (between (to_z w64 (of_z w64 a)) (to_z w64 (of_z w64 b))) ≡ Some (between a b)
made a b ends = rw (to_z-of_z w64 a ends.0, to_z-of_z w64 b ends.1, is-at-most a b ends.2) refl

pub ends-are : (x : Bounds) (a b : ℤ) → a ≡ x.lo → b ≡ x.hi → between a b ≡ x
ends-are x a b a_is b_is = ap (λ (z : ℤ). between z b) a_is ∙ ap (λ (z : ℤ). between x.lo z) b_is

-- the same of the lists that the columns stand for
pub covered-views : (los his others tops : List ℤ) (xs ys : List Bounds) (r : Bool) → of_columns los his ≡ xs → of_columns others tops ≡ ys → AreColumns los his → AreColumns others tops → length xs ≡ length ys → r ≡ all_covered los his others tops → IsTrue r ↔ CoversEach ys xs
covered-views los his others tops xs ys r view other_view are also same is =
    let counts : length los ≡ length others = low-count los his xs view are ∙ same ∙ sym (low-count others tops ys other_view also) in
    (λ yes. rw (sym view, sym other_view) (covers los his others tops are also counts (sym is ∙ yes)), λ each. is ∙ is-covered los his others tops are also (rw (view, other_view) each))

pub joined-view : (los his others tops : List ℤ) (xs ys : List Bounds) (lo hi : List ℤ) → of_columns los his ≡ xs → of_columns others tops ≡ ys → AreColumns los his → AreColumns others tops → lo ≡ zip2 int_min los others → hi ≡ zip2 int_max his tops → of_columns lo hi ≡ on_each hull xs ys
joined-view los his others tops xs ys lo hi view other_view are also lo_is hi_is =
    rw (lo_is, hi_is, sym view, sym other_view) (of_columns-join los his others tops are also)

pub joined-columns : (los his others tops : List ℤ) (xs ys : List Bounds) (lo hi : List ℤ) → of_columns los his ≡ xs → of_columns others tops ≡ ys → AreColumns los his → AreColumns others tops → length xs ≡ length ys → lo ≡ zip2 int_min los others → hi ≡ zip2 int_max his tops → AreColumns lo hi
joined-columns los his others tops xs ys lo hi view other_view are also same lo_is hi_is =
    let counts : length los ≡ length others = low-count los his xs view are ∙ same ∙ sym (low-count others tops ys other_view also) in
    rw (lo_is, hi_is) (join-columns los his others tops are also counts)

pub length-hulls : (xs ys : List Bounds) → length xs ≡ length ys → length (on_each hull xs ys) ≡ length xs
length-hulls [] ys same = refl
length-hulls (x ∷ xs) [] same = absurd (omega (arith, same))
length-hulls (x ∷ xs) (y ∷ ys) same = ap suc (length-hulls xs ys (omega (arith, same)))
