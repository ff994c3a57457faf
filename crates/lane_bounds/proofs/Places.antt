-- Columns, place by place.
use Rattle.std.proofs.Common.{ap₂, ◌≡◌, ℕ, zero, suc, ◌+◌, ◌<◌, ◌≤◌, ℤ, ◌≤ℤ◌, ◌<ℤ◌, Bool, true, false, ◌&&◌, ◌||◌, ◌↔◌, List, [], ◌∷◌, length, get_or, take, drop, set, int_le, int_lt, nat_eq, IsTrue, length-drop, arith, refl, sym, ◌∙◌, ap}
use Rattle.std.specs.Cmp.Lexicographic.{pointwise}
use Rattle.std.specs.Simd.Lanes.{zip2, chunk, put_chunk}
use Rattle.std.proofs.lemmas.Bool.{and_parts}
use Rattle.std.proofs.lemmas.List.{drop-drop}
use Rattle.std.proofs.lemmas.Int.{ints}
use Rattle.lane_bounds.specs.declared.cmp.Cmp.{Cmp}
use Rattle.lane_bounds.specs.declared.cmp.Cmp.TheVariants.{Lt, Le, Gt, Ge, Eq, Ne}
use Rattle.lane_bounds.specs.Columns.{all_at_most, all_covered, at_place, bit_of}
use Rattle.lane_bounds.specs.Comparisons.{HoldsForSome, holds_for_some}

le_of : (x y : ℤ) → int_le x y ≡ true → x ≤ℤ y
le_of x y e = grind (arith, ints)

lt_of : (x y : ℤ) → int_lt x y ≡ true → x <ℤ y
lt_of x y e = grind (arith, ints)

not_lt_of : (x y : ℤ) → int_lt x y ≡ false → y ≤ℤ x
not_lt_of x y e = grind (arith, ints)

to_le : (x y : ℤ) → x ≤ℤ y → int_le x y ≡ true
to_le x y h = grind (arith, ints)

to_lt : (x y : ℤ) → x <ℤ y → int_lt x y ≡ true
to_lt x y h = grind (arith, ints)

le_self : (x : ℤ) → x ≤ℤ x
le_self x = omega (arith, ints)

same_of : (x y : ℤ) → x ≤ℤ y → y ≤ℤ x → x ≡ y
same_of x y p q = grind (arith, ints)

both : (s t : Bool) → s ≡ true → t ≡ true → (s && t) ≡ true
both s t p q = rw (p, q) refl

drop_after : (n : ℕ) (xs : List ℤ) → drop 4 (drop n xs) ≡ drop (n + 4) xs
drop_after n xs = drop-drop 4 n xs

-- a test of all places is that of the first n and that of the others
pub pointwise-split : (E : ℤ → ℤ → Bool) (n : ℕ) (xs ys : List ℤ) → n ≤ length xs → n ≤ length ys → pointwise E xs ys ≡ (pointwise E (take n xs) (take n ys) && pointwise E (drop n xs) (drop n ys))
pointwise-split E zero xs ys p q = refl
pointwise-split E (suc n) [] ys p q = absurd (omega arith)
pointwise-split E (suc n) (x ∷ xs) [] p q = absurd (omega arith)
pointwise-split E (suc n) (x ∷ xs) (y ∷ ys) p q = ap (λ (b : Bool). E x y && b) (pointwise-split E n xs ys (omega arith) (omega arith)) ∙ and_regroup (E x y) (pointwise E (take n xs) (take n ys)) (pointwise E (drop n xs) (drop n ys))
  where
    and_regroup : (a b c : Bool) → (a && (b && c)) ≡ ((a && b) && c)
    and_regroup true b c = refl
    and_regroup false b c = refl

-- the first column, in which the first n numbers were put together with those of the second
abbrev pub partly : (ℤ → ℤ → ℤ) → ℕ → List ℤ → List ℤ → List ℤ
partly f zero xs ys = xs
partly f (suc n) [] ys = []
partly f (suc n) (x ∷ xs) [] = x ∷ xs
partly f (suc n) (x ∷ xs) (y ∷ ys) = f x y ∷ partly f n xs ys

pub partly-all : (f : ℤ → ℤ → ℤ) (n : ℕ) (xs ys : List ℤ) → length ys ≡ length xs → length xs ≤ n → partly f n xs ys ≡ zip2 f xs ys
partly-all f zero [] ys p q = refl
partly-all f zero (x ∷ xs) ys p q = absurd (omega arith)
partly-all f (suc n) [] ys p q = refl
partly-all f (suc n) (x ∷ xs) [] p q = absurd (omega arith)
partly-all f (suc n) (x ∷ xs) (y ∷ ys) p q = ap (λ (zs : List ℤ). f x y ∷ zs) (partly-all f n xs ys (omega arith) (omega arith))

-- one place more
pub partly-next : (f : ℤ → ℤ → ℤ) (n : ℕ) (xs ys : List ℤ) (d e : ℤ) → n < length xs → n < length ys → set (partly f n xs ys) n (f (get_or (partly f n xs ys) n d) (get_or ys n e)) ≡ partly f (n + 1) xs ys
partly-next f zero [] ys d e p q = absurd (omega arith)
partly-next f zero (x ∷ xs) [] d e p q = absurd (omega arith)
partly-next f zero (x ∷ xs) (y ∷ ys) d e p q = refl
partly-next f (suc n) [] ys d e p q = absurd (omega arith)
partly-next f (suc n) (x ∷ xs) [] d e p q = absurd (omega arith)
partly-next f (suc n) (x ∷ xs) (y ∷ ys) d e p q =
    let next : suc n + 1 ≡ suc (n + 1) = omega arith in
    rw next (ap (λ (zs : List ℤ). f x y ∷ zs) (partly-next f n xs ys d e (omega arith) (omega arith)))

-- four places more
pub partly-four : (f : ℤ → ℤ → ℤ) (n : ℕ) (xs ys : List ℤ) → n + 4 ≤ length xs → n + 4 ≤ length ys → put_chunk n (partly f n xs ys) (zip2 f (chunk n 4 (partly f n xs ys)) (chunk n 4 ys)) ≡ partly f (n + 4) xs ys
partly-four f zero (x ∷ x1 ∷ x2 ∷ x3 ∷ xs) (y ∷ y1 ∷ y2 ∷ y3 ∷ ys) p q = first xs
  where
    first : (zs : List ℤ) → put_chunk 0 (x ∷ x1 ∷ x2 ∷ x3 ∷ zs) (f x y ∷ f x1 y1 ∷ f x2 y2 ∷ f x3 y3 ∷ []) ≡ f x y ∷ f x1 y1 ∷ f x2 y2 ∷ f x3 y3 ∷ zs
    first [] = refl
    first (z ∷ zs) = refl
partly-four f zero xs ys p q = absurd (omega arith)
partly-four f (suc n) (x ∷ xs) (y ∷ ys) p q =
    let next : suc n + 4 ≡ suc (n + 4) = omega arith in
    rw next (ap (λ (zs : List ℤ). f x y ∷ zs) (partly-four f n xs ys (omega arith) (omega arith)))
partly-four f (suc n) xs ys p q = absurd (omega arith)

-- a test of all places, told by the places
all_at_most-sound : (xs ys : List ℤ) → all_at_most xs ys ≡ true → (k : ℕ) → k < length xs → at_place xs k ≤ℤ at_place ys k
all_at_most-sound [] ys e k within = absurd (omega arith)
all_at_most-sound (x ∷ xs) [] e k within = absurd (cc)
all_at_most-sound (x ∷ xs) (y ∷ ys) e zero within = le_of x y (and_parts (int_le x y) (all_at_most xs ys) e).0
all_at_most-sound (x ∷ xs) (y ∷ ys) e (suc k) within = all_at_most-sound xs ys (and_parts (int_le x y) (all_at_most xs ys) e).1 k (omega arith)

all_at_most-complete : (xs ys : List ℤ) → length ys ≡ length xs → ((k : ℕ) → k < length xs → at_place xs k ≤ℤ at_place ys k) → all_at_most xs ys ≡ true
all_at_most-complete [] [] same each = refl
all_at_most-complete [] (y ∷ ys) same each = absurd (omega arith)
all_at_most-complete (x ∷ xs) [] same each = absurd (omega arith)
all_at_most-complete (x ∷ xs) (y ∷ ys) same each =
    rw (to_le x y (each 0 (omega arith)), all_at_most-complete xs ys (omega arith) (λ k within. each (suc k) (omega arith))) refl

pub all_covered-places : (a_lo a_hi b_lo b_hi : List ℤ) → length a_hi ≡ length a_lo → length b_lo ≡ length a_lo → length b_hi ≡ length a_lo → IsTrue (all_covered a_lo a_hi b_lo b_hi) ↔ ((k : ℕ) → k < length a_lo → (at_place b_lo k ≤ℤ at_place a_lo k) × (at_place a_hi k ≤ℤ at_place b_hi k))
all_covered-places a_lo a_hi b_lo b_hi p q r = (
  λ test k within.
      let parts = and_parts (all_at_most b_lo a_lo) (all_at_most a_hi b_hi) test in
      (all_at_most-sound b_lo a_lo parts.0 k (omega arith), all_at_most-sound a_hi b_hi parts.1 k (omega arith)),
  λ each. rw (all_at_most-complete b_lo a_lo (sym q) (λ k within. (each k (omega arith)).0), all_at_most-complete a_hi b_hi (r ∙ sym p) (λ k within. (each k (omega arith)).1)) refl,
)

-- where the four places from n on pass, those after them decide
four_decide : (n : ℕ) (xs ys : List ℤ) → n + 4 ≤ length xs → n + 4 ≤ length ys → all_at_most (drop n xs) (drop n ys) ≡ (all_at_most (chunk n 4 xs) (chunk n 4 ys) && all_at_most (drop (n + 4) xs) (drop (n + 4) ys))
four_decide n xs ys p q =
    pointwise-split int_le 4 (drop n xs) (drop n ys) (omega (arith, length-drop n xs)) (omega (arith, length-drop n ys))
    ∙ rw (drop_after n xs, drop_after n ys) refl

abbrev both_of : Bool → Bool → Bool
both_of a b = a && b

covered_regroup : (a b c d : Bool) → ((a && b) && (c && d)) ≡ ((a && c) && (b && d))
covered_regroup true true c d = refl
covered_regroup true false true d = refl
covered_regroup true false false d = refl
covered_regroup false b c d = refl

pub all_covered-four : (n : ℕ) (a_lo a_hi b_lo b_hi : List ℤ) → n + 4 ≤ length a_lo → n + 4 ≤ length a_hi → n + 4 ≤ length b_lo → n + 4 ≤ length b_hi
    → all_covered (drop n a_lo) (drop n a_hi) (drop n b_lo) (drop n b_hi) ≡ (all_covered (chunk n 4 a_lo) (chunk n 4 a_hi) (chunk n 4 b_lo) (chunk n 4 b_hi) && all_covered (drop (n + 4) a_lo) (drop (n + 4) a_hi) (drop (n + 4) b_lo) (drop (n + 4) b_hi))
all_covered-four n a_lo a_hi b_lo b_hi p q r s =
    ap₂ both_of (four_decide n b_lo a_lo r p) (four_decide n a_hi b_hi q s)
    ∙ covered_regroup (all_at_most (chunk n 4 b_lo) (chunk n 4 a_lo)) (all_at_most (drop (n + 4) b_lo) (drop (n + 4) a_lo)) (all_at_most (chunk n 4 a_hi) (chunk n 4 b_hi)) (all_at_most (drop (n + 4) a_hi) (drop (n + 4) b_hi))

pub all_covered-passed : (n : ℕ) (a_lo a_hi b_lo b_hi : List ℤ) → n + 4 ≤ length a_lo → n + 4 ≤ length a_hi → n + 4 ≤ length b_lo → n + 4 ≤ length b_hi
    → all_covered (chunk n 4 a_lo) (chunk n 4 a_hi) (chunk n 4 b_lo) (chunk n 4 b_hi) ≡ true
    → all_covered (drop n a_lo) (drop n a_hi) (drop n b_lo) (drop n b_hi) ≡ all_covered (drop (n + 4) a_lo) (drop (n + 4) a_hi) (drop (n + 4) b_lo) (drop (n + 4) b_hi)
all_covered-passed n a_lo a_hi b_lo b_hi p q r s passed =
    all_covered-four n a_lo a_hi b_lo b_hi p q r s
    ∙ ap (λ (b : Bool). b && all_covered (drop (n + 4) a_lo) (drop (n + 4) a_hi) (drop (n + 4) b_lo) (drop (n + 4) b_hi)) passed

pub all_covered-failed : (n : ℕ) (a_lo a_hi b_lo b_hi : List ℤ) → n + 4 ≤ length a_lo → n + 4 ≤ length a_hi → n + 4 ≤ length b_lo → n + 4 ≤ length b_hi
    → all_covered (chunk n 4 a_lo) (chunk n 4 a_hi) (chunk n 4 b_lo) (chunk n 4 b_hi) ≡ false
    → all_covered (drop n a_lo) (drop n a_hi) (drop n b_lo) (drop n b_hi) ≡ false
all_covered-failed n a_lo a_hi b_lo b_hi p q r s failed =
    all_covered-four n a_lo a_hi b_lo b_hi p q r s
    ∙ ap (λ (b : Bool). b && all_covered (drop (n + 4) a_lo) (drop (n + 4) a_hi) (drop (n + 4) b_lo) (drop (n + 4) b_hi)) failed

-- the place n and those after it
at_most_next : (n : ℕ) (xs ys : List ℤ) → n < length xs → n < length ys → all_at_most (drop n xs) (drop n ys) ≡ (int_le (at_place xs n) (at_place ys n) && all_at_most (drop (n + 1) xs) (drop (n + 1) ys))
at_most_next zero [] ys p q = absurd (omega arith)
at_most_next zero (x ∷ xs) [] p q = absurd (omega arith)
at_most_next zero (x ∷ xs) (y ∷ ys) p q = refl
at_most_next (suc n) [] ys p q = absurd (omega arith)
at_most_next (suc n) (x ∷ xs) [] p q = absurd (omega arith)
at_most_next (suc n) (x ∷ xs) (y ∷ ys) p q =
    let next : suc n + 1 ≡ suc (n + 1) = omega arith in
    rw next (at_most_next n xs ys (omega arith) (omega arith))

pub all_covered-next : (n : ℕ) (a_lo a_hi b_lo b_hi : List ℤ) → n < length a_lo → n < length a_hi → n < length b_lo → n < length b_hi
    → all_covered (drop n a_lo) (drop n a_hi) (drop n b_lo) (drop n b_hi) ≡ ((int_le (at_place b_lo n) (at_place a_lo n) && int_le (at_place a_hi n) (at_place b_hi n)) && all_covered (drop (n + 1) a_lo) (drop (n + 1) a_hi) (drop (n + 1) b_lo) (drop (n + 1) b_hi))
all_covered-next n a_lo a_hi b_lo b_hi p q r s =
    ap₂ both_of (at_most_next n b_lo a_lo r p) (at_most_next n a_hi b_hi q s)
    ∙ covered_regroup (int_le (at_place b_lo n) (at_place a_lo n)) (all_at_most (drop (n + 1) b_lo) (drop (n + 1) a_lo)) (int_le (at_place a_hi n) (at_place b_hi n)) (all_at_most (drop (n + 1) a_hi) (drop (n + 1) b_hi))

pub bit_of-test : (n : ℕ) (b : Bool) → n ≡ bit_of b → nat_eq n 1 ≡ b
bit_of-test n true e = rw e refl
bit_of-test n false e = rw e refl

-- what some number between two ends does, told by the ends
some_sound : (op : Cmp) (c low high : ℤ) → holds_for_some op c low high ≡ true → HoldsForSome op c low high
some_sound Lt c low high e =
    let parts = and_parts (int_le low high) (int_lt low c) e in
    (low, le_self low, le_of low high parts.0, lt_of low c parts.1)
some_sound Le c low high e =
    let parts = and_parts (int_le low high) (int_le low c) e in
    (low, le_self low, le_of low high parts.0, le_of low c parts.1)
some_sound Gt c low high e =
    let parts = and_parts (int_le low high) (int_lt c high) e in
    (high, le_of low high parts.0, le_self high, lt_of c high parts.1)
some_sound Ge c low high e =
    let parts = and_parts (int_le low high) (int_le c high) e in
    (high, le_of low high parts.0, le_self high, le_of c high parts.1)
some_sound Eq c low high e =
    let parts = and_parts (int_le low c) (int_le c high) e in
    (c, le_of low c parts.0, le_of c high parts.1, refl)
some_sound Ne c low high e =
    let parts = and_parts (int_le low high) (int_lt low c || int_lt c high) e in
    either (int_lt low c) refl (int_lt c high) refl (le_of low high parts.0) parts.1
  where
    either : (s : Bool) → int_lt low c ≡ s → (t : Bool) → int_lt c high ≡ t → low ≤ℤ high → (s || t) ≡ true → HoldsForSome Ne c low high
    either true p t q order h = (low, le_self low, order, λ same. let below = lt_of low c p in omega (arith, ints))
    either false p true q order h = (high, order, le_self high, λ same. let below = lt_of c high q in omega (arith, ints))
    either false p false q order h = absurd (cc)

some_complete : (op : Cmp) (c low high : ℤ) → HoldsForSome op c low high → holds_for_some op c low high ≡ true
some_complete Lt c low high (x, first, last, holds) = both (int_le low high) (int_lt low c) (to_le low high (omega (arith, ints))) (to_lt low c (omega (arith, ints)))
some_complete Le c low high (x, first, last, holds) = both (int_le low high) (int_le low c) (to_le low high (omega (arith, ints))) (to_le low c (omega (arith, ints)))
some_complete Gt c low high (x, first, last, holds) = both (int_le low high) (int_lt c high) (to_le low high (omega (arith, ints))) (to_lt c high (omega (arith, ints)))
some_complete Ge c low high (x, first, last, holds) = both (int_le low high) (int_le c high) (to_le low high (omega (arith, ints))) (to_le c high (omega (arith, ints)))
some_complete Eq c low high (x, first, last, holds) = both (int_le low c) (int_le c high) (to_le low c (omega (arith, ints))) (to_le c high (omega (arith, ints)))
some_complete Ne c low high (x, first, last, holds) =
    both (int_le low high) (int_lt low c || int_lt c high) (to_le low high (omega (arith, ints)))
    (one_of (int_lt low c) refl (int_lt c high) refl)
  where
    one_of : (s : Bool) → int_lt low c ≡ s → (t : Bool) → int_lt c high ≡ t → (s || t) ≡ true
    one_of true p t q = refl
    one_of false p true q = refl
    one_of false p false q =
        let low_side = not_lt_of low c p in
        let high_side = not_lt_of c high q in
        absurd (holds (same_of x c (omega (arith, ints)) (omega (arith, ints))))

pub holds_for_some-meaning : (op : Cmp) (c low high : ℤ) → IsTrue (holds_for_some op c low high) ↔ HoldsForSome op c low high
holds_for_some-meaning op c low high = (some_sound op c low high, some_complete op c low high)
