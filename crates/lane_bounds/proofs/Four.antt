-- What an operation on four lanes gives, place by place.
use Rattle.std.proofs.Common.{◌≡◌, ℕ, ◌+◌, ◌-◌, ◌%◌, ◌^◌, ◌<◌, ℤ, pos, ◌≤ℤ◌, ◌<ℤ◌, Bool, true, false, cond, ◌&&◌, ◌||◌, List, [], ◌∷◌, length, map, get_or, replicate, nat_eq, int_le, int_lt, All, FitsSigned, to_z, of_z, w64, arith, refl, sym, ◌∙◌, ap, ap₂, subst}
use Rattle.std.specs.Cmp.Lexicographic.{pointwise}
use Rattle.std.specs.Int.{bit_at, int_min, int_max}
use Rattle.std.specs.Simd.Lanes.{zip2, mask_l, top, sel_l, chunk}
use Rattle.std.proofs.lemmas.Int.{ints, clamps, to_z-of_z}
use Rattle.std.proofs.lemmas.List.Elements.{All-head, All-tail, All-replicate}
use Rattle.std.proofs.lemmas.Simd.{get_or-chunk, get_or-zip2, bit_mask_l, mask_l-mod, mask_l-lt, length-zip2}
use mir.Syntax.{mask, le, lt, signed, bit_and, bit_or}
use borrow.Rule.Simd.Lanes.{act2}
use borrow.Table.Row.{s_int}
use Rattle.lane_bounds.specs.Columns.{IsFour, at_place, bit_of}

abbrev pub le_lane : ℕ → ℕ → ℕ
le_lane = act2 (mask (le signed)) (s_int w64) (s_int w64) (s_int w64)

abbrev pub lt_lane : ℕ → ℕ → ℕ
lt_lane = act2 (mask (lt signed)) (s_int w64) (s_int w64) (s_int w64)

le_compares : (x y : ℤ) → FitsSigned w64 x → FitsSigned w64 y → le_lane (of_z w64 x) (of_z w64 y) ≡ cond (int_le x y) (2 ^ 64 - 1) 0
le_compares x y p q = rw (to_z-of_z w64 x p, to_z-of_z w64 y q)

lt_compares : (x y : ℤ) → FitsSigned w64 x → FitsSigned w64 y → lt_lane (of_z w64 x) (of_z w64 y) ≡ cond (int_lt x y) (2 ^ 64 - 1) 0
lt_compares x y p q = rw (to_z-of_z w64 x p, to_z-of_z w64 y q)

abbrev pub and_lane : ℕ → ℕ → ℕ
and_lane = act2 bit_and (s_int w64) (s_int w64) (s_int w64)

abbrev pub or_lane : ℕ → ℕ → ℕ
or_lane = act2 bit_or (s_int w64) (s_int w64) (s_int w64)

-- a lane that holds a test: all ones, or all zeros
abbrev pub mask_of : Bool → ℕ
mask_of b = cond b (2 ^ 64 - 1) 0

-- four lanes that hold these tests
pub record IsMask (lanes : List ℕ) (tests : List Bool) : Type 0 where
  pub lanes_are : lanes ≡ map mask_of tests
  pub four : length tests ≡ 4

compared_lanes : (lane : ℕ → ℕ → ℕ) (t : ℤ → ℤ → Bool) → ((x y : ℤ) → FitsSigned w64 x → FitsSigned w64 y → lane (of_z w64 x) (of_z w64 y) ≡ mask_of (t x y)) → (xs ys : List ℤ) → All (FitsSigned w64) xs → All (FitsSigned w64) ys → zip2 lane (map (of_z w64) xs) (map (of_z w64) ys) ≡ map mask_of (zip2 t xs ys)
compared_lanes lane t is [] ys p q = refl
compared_lanes lane t is (x ∷ xs) [] p q = refl
compared_lanes lane t is (x ∷ xs) (y ∷ ys) p q =
    ap₂ ◌∷◌ (is x y (All-head (FitsSigned w64) x xs p) (All-head (FitsSigned w64) y ys q)) (compared_lanes lane t is xs ys (All-tail (FitsSigned w64) x xs p) (All-tail (FitsSigned w64) y ys q))

pub IsMask-le : (xs ys : List ℤ) → IsFour xs → IsFour ys → IsMask (zip2 le_lane (map (of_z w64) xs) (map (of_z w64) ys)) (zip2 int_le xs ys)
IsMask-le xs ys (p, fits) (q, fits') = record { lanes_are = compared_lanes le_lane int_le le_compares xs ys fits fits'; four = length-zip2 int_le xs ys (p ∙ sym q) ∙ p }

pub IsMask-lt : (xs ys : List ℤ) → IsFour xs → IsFour ys → IsMask (zip2 lt_lane (map (of_z w64) xs) (map (of_z w64) ys)) (zip2 int_lt xs ys)
IsMask-lt xs ys (p, fits) (q, fits') = record { lanes_are = compared_lanes lt_lane int_lt lt_compares xs ys fits fits'; four = length-zip2 int_lt xs ys (p ∙ sym q) ∙ p }

and_one : (a b : Bool) → and_lane (mask_of a) (mask_of b) ≡ mask_of (a && b)
and_one true true = refl
and_one true false = refl
and_one false true = refl
and_one false false = refl

or_one : (a b : Bool) → or_lane (mask_of a) (mask_of b) ≡ mask_of (a || b)
or_one true true = refl
or_one true false = refl
or_one false true = refl
or_one false false = refl

joined_lanes : (lane : ℕ → ℕ → ℕ) (t : Bool → Bool → Bool) → ((a b : Bool) → lane (mask_of a) (mask_of b) ≡ mask_of (t a b)) → (ms ns : List Bool) → zip2 lane (map mask_of ms) (map mask_of ns) ≡ map mask_of (zip2 t ms ns)
joined_lanes lane t is [] ns = refl
joined_lanes lane t is (m ∷ ms) [] = refl
joined_lanes lane t is (m ∷ ms) (n ∷ ns) = ap₂ ◌∷◌ (is m n) (joined_lanes lane t is ms ns)

abbrev pub both : Bool → Bool → Bool
both a b = a && b

abbrev pub either : Bool → Bool → Bool
either a b = a || b

pub IsMask-and : (a b : List ℕ) (ms ns : List Bool) → IsMask a ms → IsMask b ns → IsMask (zip2 and_lane a b) (zip2 both ms ns)
IsMask-and a b ms ns p q = record { lanes_are = ap₂ (zip2 and_lane) p.lanes_are q.lanes_are ∙ joined_lanes and_lane both and_one ms ns; four = length-zip2 both ms ns (p.four ∙ sym q.four) ∙ p.four }

pub IsMask-or : (a b : List ℕ) (ms ns : List Bool) → IsMask a ms → IsMask b ns → IsMask (zip2 or_lane a b) (zip2 either ms ns)
IsMask-or a b ms ns p q = record { lanes_are = ap₂ (zip2 or_lane) p.lanes_are q.lanes_are ∙ joined_lanes or_lane either or_one ms ns; four = length-zip2 either ms ns (p.four ∙ sym q.four) ∙ p.four }

-- the tests that lanes hold
tops_are : (ms : List Bool) → map (top 63) (map mask_of ms) ≡ ms
tops_are [] = refl
tops_are (true ∷ ms) = ap (λ (ns : List Bool). true ∷ ns) (tops_are ms)
tops_are (false ∷ ms) = ap (λ (ns : List Bool). false ∷ ns) (tops_are ms)

bits_are : (lanes : List ℕ) (ms : List Bool) → IsMask lanes ms → mask_l (map (top 63) lanes) % 2 ^ 64 ≡ mask_l ms
bits_are lanes ms is =
    ap (λ (ns : List Bool). mask_l ns % 2 ^ 64) (ap (map (top 63)) is.lanes_are ∙ tops_are ms) ∙ mask_l-mod ms 64 (omega (arith, is.four))

pub bit_at-mask : (lanes : List ℕ) (ms : List Bool) → IsMask lanes ms → (j : ℕ) → bit_at (mask_l (map (top 63) lanes) % 2 ^ 64) j ≡ bit_of (get_or ms j false)
bit_at-mask lanes ms is j = ap (λ (n : ℕ). bit_at n j) (bits_are lanes ms is) ∙ bit_mask_l ms j

pub mask-small : (lanes : List ℕ) (ms : List Bool) → IsMask lanes ms → mask_l (map (top 63) lanes) % 2 ^ 64 < 16
mask-small lanes ms is = rw (bits_are lanes ms is) (subst (λ (n : ℕ). mask_l ms < 2 ^ n) is.four (mask_l-lt ms))

-- one number four times
pub IsFour-replicate : (n : ℤ) → FitsSigned w64 n → IsFour (replicate 4 n)
IsFour-replicate n fits = (refl, All-replicate (FitsSigned w64) 4 n fits)

-- four bits, all of them set
four_set : (a b c d : Bool) → nat_eq (mask_l (a ∷ b ∷ c ∷ d ∷ [])) 15 ≡ (a && (b && (c && (d && true))))
four_set true true true true = refl
four_set true true true false = refl
four_set true true false true = refl
four_set true true false false = refl
four_set true false true true = refl
four_set true false true false = refl
four_set true false false true = refl
four_set true false false false = refl
four_set false true true true = refl
four_set false true true false = refl
four_set false true false true = refl
four_set false true false false = refl
four_set false false true true = refl
four_set false false true false = refl
four_set false false false true = refl
four_set false false false false = refl

regroup : (a b c d p q r s : Bool) → (both a p && (both b q && (both c r && (both d s && true)))) ≡ ((a && (b && (c && (d && true)))) && (p && (q && (r && (s && true)))))
regroup true true true true p q r s = refl
regroup true true true false true true true s = refl
regroup true true true false true true false s = refl
regroup true true true false true false r s = refl
regroup true true true false false q r s = refl
regroup true true false d true true r s = refl
regroup true true false d true false r s = refl
regroup true true false d false q r s = refl
regroup true false c d true q r s = refl
regroup true false c d false q r s = refl
regroup false b c d p q r s = refl

both_set : (t : ℤ → ℤ → Bool) (xs ys us vs : List ℤ) → length xs ≡ 4 → length ys ≡ 4 → length us ≡ 4 → length vs ≡ 4 → nat_eq (mask_l (zip2 both (zip2 t xs ys) (zip2 t us vs))) 15 ≡ (pointwise t xs ys && pointwise t us vs)
both_set t (x ∷ x1 ∷ x2 ∷ x3 ∷ []) (y ∷ y1 ∷ y2 ∷ y3 ∷ []) (u ∷ u1 ∷ u2 ∷ u3 ∷ []) (v ∷ v1 ∷ v2 ∷ v3 ∷ []) o p q r =
    four_set (t x y && t u v) (t x1 y1 && t u1 v1) (t x2 y2 && t u2 v2) (t x3 y3 && t u3 v3)
    ∙ regroup (t x y) (t x1 y1) (t x2 y2) (t x3 y3) (t u v) (t u1 v1) (t u2 v2) (t u3 v3)
both_set t xs ys us vs o p q r = absurd (omega arith)

pub all_set : (xs ys us vs : List ℤ) → IsFour xs → IsFour ys → IsFour us → IsFour vs → nat_eq (mask_l (map (top 63) (zip2 and_lane (zip2 le_lane (map (of_z w64) xs) (map (of_z w64) ys)) (zip2 le_lane (map (of_z w64) us) (map (of_z w64) vs)))) % 2 ^ 64) 15 ≡ (pointwise int_le xs ys && pointwise int_le us vs)
all_set xs ys us vs o p q r =
    ap (λ (n : ℕ). nat_eq n 15) (bits_are _ _ (IsMask-and _ _ _ _ (IsMask-le xs ys o p) (IsMask-le us vs q r)))
    ∙ both_set int_le xs ys us vs o.0 p.0 q.0 r.0

below_of : (x y : ℤ) → int_lt x y ≡ true → x <ℤ y
below_of x y e = grind (arith, ints)

not_below_of : (x y : ℤ) → int_lt x y ≡ false → y ≤ℤ x
not_below_of x y e = grind (arith, ints)

least_left : (x y : ℤ) → x <ℤ y → x ≡ int_min x y
least_left x y h = omega (arith, ints, clamps)

least_right : (x y : ℤ) → y ≤ℤ x → y ≡ int_min x y
least_right x y h = omega (arith, ints, clamps)

most_left : (x y : ℤ) → y ≤ℤ x → x ≡ int_max x y
most_left x y h = omega (arith, ints, clamps)

most_right : (x y : ℤ) → x <ℤ y → y ≡ int_max x y
most_right x y h = omega (arith, ints, clamps)

-- the lesser and the greater of two lanes
lesser : (x y : ℤ) (b : Bool) → int_lt x y ≡ b → FitsSigned w64 x → FitsSigned w64 y → to_z w64 (cond b (of_z w64 x) (of_z w64 y)) ≡ int_min x y
lesser x y true e p q = to_z-of_z w64 x p ∙ (let below = below_of x y e in least_left x y below)
lesser x y false e p q = to_z-of_z w64 y q ∙ least_right x y (not_below_of x y e)

greater : (x y : ℤ) (b : Bool) → int_lt x y ≡ b → FitsSigned w64 x → FitsSigned w64 y → to_z w64 (cond b (of_z w64 y) (of_z w64 x)) ≡ int_max x y
greater x y true e p q = to_z-of_z w64 y q ∙ (let below = below_of x y e in most_right x y below)
greater x y false e p q = to_z-of_z w64 x p ∙ most_left x y (not_below_of x y e)

lesser_lanes : (xs ys : List ℤ) → All (FitsSigned w64) xs → All (FitsSigned w64) ys → map (to_z w64) (sel_l (zip2 int_lt xs ys) (map (of_z w64) xs) (map (of_z w64) ys)) ≡ zip2 int_min xs ys
lesser_lanes [] ys p q = refl
lesser_lanes (x ∷ xs) [] p q = refl
lesser_lanes (x ∷ xs) (y ∷ ys) p q =
    ap₂ ◌∷◌ (lesser x y (int_lt x y) refl (All-head (FitsSigned w64) x xs p) (All-head (FitsSigned w64) y ys q)) (lesser_lanes xs ys (All-tail (FitsSigned w64) x xs p) (All-tail (FitsSigned w64) y ys q))

greater_lanes : (xs ys : List ℤ) → All (FitsSigned w64) xs → All (FitsSigned w64) ys → map (to_z w64) (sel_l (zip2 int_lt xs ys) (map (of_z w64) ys) (map (of_z w64) xs)) ≡ zip2 int_max xs ys
greater_lanes [] ys p q = refl
greater_lanes (x ∷ xs) [] p q = refl
greater_lanes (x ∷ xs) (y ∷ ys) p q =
    ap₂ ◌∷◌ (greater x y (int_lt x y) refl (All-head (FitsSigned w64) x xs p) (All-head (FitsSigned w64) y ys q)) (greater_lanes xs ys (All-tail (FitsSigned w64) x xs p) (All-tail (FitsSigned w64) y ys q))

tops_below : (xs ys : List ℤ) → IsFour xs → IsFour ys → map (top 63) (zip2 lt_lane (map (of_z w64) xs) (map (of_z w64) ys)) ≡ zip2 int_lt xs ys
tops_below xs ys p q = ap (map (top 63)) (IsMask-lt xs ys p q).lanes_are ∙ tops_are (zip2 int_lt xs ys)

pub lesser-four : (xs ys : List ℤ) → IsFour xs → IsFour ys → map (to_z w64) (sel_l (map (top 63) (zip2 lt_lane (map (of_z w64) xs) (map (of_z w64) ys))) (map (of_z w64) xs) (map (of_z w64) ys)) ≡ zip2 int_min xs ys
lesser-four xs ys p q = ap (λ (ms : List Bool). map (to_z w64) (sel_l ms (map (of_z w64) xs) (map (of_z w64) ys))) (tops_below xs ys p q) ∙ lesser_lanes xs ys p.1 q.1

pub greater-four : (xs ys : List ℤ) → IsFour xs → IsFour ys → map (to_z w64) (sel_l (map (top 63) (zip2 lt_lane (map (of_z w64) xs) (map (of_z w64) ys))) (map (of_z w64) ys) (map (of_z w64) xs)) ≡ zip2 int_max xs ys
greater-four xs ys p q = ap (λ (ms : List Bool). map (to_z w64) (sel_l ms (map (of_z w64) ys) (map (of_z w64) xs))) (tops_below xs ys p q) ∙ greater_lanes xs ys p.1 q.1

-- a lane is the number of the column at its place
pub at_place-lane : (column lanes : List ℤ) (at j : ℕ) → lanes ≡ chunk at 4 column → j < 4 → get_or lanes j (pos 0) ≡ at_place column (at + j)
at_place-lane column lanes at j is within = ap (λ (xs : List ℤ). get_or xs j (pos 0)) is ∙ get_or-chunk at 4 column j (pos 0) within

-- the test of two comparisons at a lane
pub both_at : (t u : ℤ → ℤ → Bool) (xs ys us vs : List ℤ) (j : ℕ) → IsFour xs → IsFour ys → IsFour us → IsFour vs → j < 4 → get_or (zip2 both (zip2 t xs ys) (zip2 u us vs)) j false ≡ (t (get_or xs j (pos 0)) (get_or ys j (pos 0)) && u (get_or us j (pos 0)) (get_or vs j (pos 0)))
both_at t u xs ys us vs j (o, f) (p, g) (q, h) (r, i) within =
    let left = length-zip2 t xs ys (o ∙ sym p) in
    let right = length-zip2 u us vs (q ∙ sym r) in
    get_or-zip2 both (zip2 t xs ys) (zip2 u us vs) j false false false (omega arith) (omega arith)
    ∙ ap₂ both (get_or-zip2 t xs ys j (pos 0) (pos 0) false (omega arith) (omega arith)) (get_or-zip2 u us vs j (pos 0) (pos 0) false (omega arith) (omega arith))

-- and of one with either of two others
pub one_and_either_at : (t u w : ℤ → ℤ → Bool) (xs ys us vs ps qs : List ℤ) (j : ℕ) → IsFour xs → IsFour ys → IsFour us → IsFour vs → IsFour ps → IsFour qs → j < 4 → get_or (zip2 both (zip2 t xs ys) (zip2 either (zip2 u us vs) (zip2 w ps qs))) j false ≡ (t (get_or xs j (pos 0)) (get_or ys j (pos 0)) && (u (get_or us j (pos 0)) (get_or vs j (pos 0)) || w (get_or ps j (pos 0)) (get_or qs j (pos 0))))
one_and_either_at t u w xs ys us vs ps qs j (o, f) (p, g) (q, h) (r, i) (k, l) (m, n) within =
    let left = length-zip2 t xs ys (o ∙ sym p) in
    let second = length-zip2 u us vs (q ∙ sym r) in
    let third = length-zip2 w ps qs (k ∙ sym m) in
    let right = length-zip2 either (zip2 u us vs) (zip2 w ps qs) (omega arith) in
    get_or-zip2 both (zip2 t xs ys) (zip2 either (zip2 u us vs) (zip2 w ps qs)) j false false false (omega arith) (omega arith)
    ∙ ap₂ both
    (get_or-zip2 t xs ys j (pos 0) (pos 0) false (omega arith) (omega arith))
    (get_or-zip2 either (zip2 u us vs) (zip2 w ps qs) j false false false (omega arith) (omega arith)
    ∙ ap₂ either (get_or-zip2 u us vs j (pos 0) (pos 0) false (omega arith) (omega arith)) (get_or-zip2 w ps qs j (pos 0) (pos 0) false (omega arith) (omega arith)))
