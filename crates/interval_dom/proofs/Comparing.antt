-- What the ends of two intervals say of a comparison of their numbers.
use Rattle.std.proofs.Common.{◌≡◌, ◌≢◌, ℤ, pos, ◌+ℤ◌, ◌-ℤ◌, ◌≤ℤ◌, ◌<ℤ◌, int_lt, int_le, Bool, true, false, cond, ◌&&◌, ◌||◌, Some, None, IsSomeAnd, IfSome, ◌↔◌, arith, refl, ap}
use Rattle.std.specs.Int.{int_max}
use Rattle.std.specs.Ordering.{int_eq}
use Rattle.std.proofs.lemmas.Bool.{and_parts}
use Rattle.std.proofs.lemmas.Int.{ints, clamps, by_lt_z}
use Rattle.interval_dom.specs.declared.cmp.Cmp.{Cmp}
use Rattle.interval_dom.specs.declared.cmp.Cmp.TheVariants.{Lt, Le, Gt, Ge, Eq, Ne}
use Rattle.interval_dom.specs.Bounds.{Bounds, between, Describes, Covers, unless_empty}
use Rattle.interval_dom.specs.Comparisons.{Relates, opposite_of, surely, comparison, past_low, past_high, cut, refined}

lt_of : (x y : ℤ) → int_lt x y ≡ true → x <ℤ y
lt_of x y e = grind (arith, ints)

not_lt_of : (x y : ℤ) → int_lt x y ≡ false → y ≤ℤ x
not_lt_of x y e = grind (arith, ints)

le_of : (x y : ℤ) → int_le x y ≡ true → x ≤ℤ y
le_of x y e = grind (arith, ints)

to_lt : (x y : ℤ) → x <ℤ y → int_lt x y ≡ true
to_lt x y h = grind (arith, ints)

to_le : (x y : ℤ) → x ≤ℤ y → int_le x y ≡ true
to_le x y h = grind (arith, ints)

same : (x y : ℤ) → x ≤ℤ y → y ≤ℤ x → x ≡ y
same x y p q = grind (arith, ints)

apart : (x y : ℤ) (s t : Bool) → (s ≡ true → x <ℤ y) → (t ≡ true → y <ℤ x) → (s || t) ≡ true → x ≢ y
apart x y true t below above e equal = let h = below refl in omega (arith, ints)
apart x y false true below above e equal = let h = above refl in omega (arith, ints)
apart x y false false below above e equal = cc

-- a comparison that the ends say holds for all pairs
pub Relates-surely : (op : Cmp) (a b : Bounds) → surely op a b ≡ true → (x y : ℤ) → Describes a x → Describes b y → Relates op x y
Relates-surely Lt a b e x y (l, h) (l', h') = let ends = lt_of a.hi b.lo e in omega (arith, ints)
Relates-surely Le a b e x y (l, h) (l', h') = let ends = le_of a.hi b.lo e in omega (arith, ints)
Relates-surely Gt a b e x y (l, h) (l', h') = let ends = lt_of b.hi a.lo e in omega (arith, ints)
Relates-surely Ge a b e x y (l, h) (l', h') = let ends = le_of b.hi a.lo e in omega (arith, ints)
Relates-surely Eq a b e x y (l, h) (l', h') =
    let parts = and_parts (int_le a.hi b.lo) (int_le b.hi a.lo) e in
    let first = le_of a.hi b.lo parts.0 in
    let last = le_of b.hi a.lo parts.1 in
    same x y (omega (arith, ints)) (omega (arith, ints))
Relates-surely Ne a b e x y (l, h) (l', h') =
    apart x y (int_lt a.hi b.lo) (int_lt b.hi a.lo) (λ t. let ends = lt_of a.hi b.lo t in omega (arith, ints)) (λ t. let ends = lt_of b.hi a.lo t in omega (arith, ints)) e

either_true : (s t : Bool) → (s ≡ false → t ≡ false → ⊥) → (s || t) ≡ true
either_true true t h = refl
either_true false true h = refl
either_true false false h = absurd (h refl refl)

both_true : (s t : Bool) → s ≡ true → t ≡ true → (s && t) ≡ true
both_true s t p q = rw (p, q) refl

-- and the other way round
pub surely-Relates : (op : Cmp) (a b : Bounds) → a.lo ≤ℤ a.hi → b.lo ≤ℤ b.hi → ((x y : ℤ) → Describes a x → Describes b y → Relates op x y) → surely op a b ≡ true
surely-Relates Lt a b p q each = to_lt a.hi b.lo (each a.hi b.lo (p, omega (arith, ints)) (omega (arith, ints), q))
surely-Relates Le a b p q each = to_le a.hi b.lo (each a.hi b.lo (p, omega (arith, ints)) (omega (arith, ints), q))
surely-Relates Gt a b p q each = to_lt b.hi a.lo (each a.lo b.hi (omega (arith, ints), p) (q, omega (arith, ints)))
surely-Relates Ge a b p q each = to_le b.hi a.lo (each a.lo b.hi (omega (arith, ints), p) (q, omega (arith, ints)))
surely-Relates Eq a b p q each =
    let first : a.hi ≡ b.lo = each a.hi b.lo (p, omega (arith, ints)) (omega (arith, ints), q) in
    let last : a.lo ≡ b.hi = each a.lo b.hi (omega (arith, ints), p) (q, omega (arith, ints)) in
    both_true (int_le a.hi b.lo) (int_le b.hi a.lo) (to_le a.hi b.lo (omega (arith, ints))) (to_le b.hi a.lo (omega (arith, ints)))
surely-Relates Ne a b p q each =
    either_true (int_lt a.hi b.lo) (int_lt b.hi a.lo) (λ s t.
    let first = not_lt_of a.hi b.lo s in
    let last = not_lt_of b.hi a.lo t in
    each (int_max a.lo b.lo) (int_max a.lo b.lo) (omega (arith, ints, clamps), omega (arith, ints, clamps)) (omega (arith, ints, clamps), omega (arith, ints, clamps)) refl)

pub opposite-fails : (op : Cmp) (x y : ℤ) → Relates (opposite_of op) x y → Relates op x y → ⊥
opposite-fails Lt x y opposite holds = omega (arith, ints)
opposite-fails Le x y opposite holds = omega (arith, ints)
opposite-fails Gt x y opposite holds = omega (arith, ints)
opposite-fails Ge x y opposite holds = omega (arith, ints)
opposite-fails Eq x y opposite holds = opposite holds
opposite-fails Ne x y opposite holds = holds opposite

equal_or : (x y : ℤ) → ((x ≡ y → ⊥) → ⊥) → x ≡ y
equal_or x y h = by_lt_z x y (λ below. absurd (h (λ e. omega (arith, ints)))) (λ above. by_lt_z y x (λ below. absurd (h (λ e. omega (arith, ints)))) (λ above'. same x y above' above))

pub opposite-holds : (op : Cmp) (x y : ℤ) → (Relates op x y → ⊥) → Relates (opposite_of op) x y
opposite-holds Lt x y fails = by_lt_z x y (λ below. absurd (fails below)) (λ above. above)
opposite-holds Le x y fails = by_lt_z y x (λ below. below) (λ above. absurd (fails above))
opposite-holds Gt x y fails = by_lt_z y x (λ below. absurd (fails below)) (λ above. above)
opposite-holds Ge x y fails = by_lt_z x y (λ below. below) (λ above. absurd (fails above))
opposite-holds Eq x y fails = fails
opposite-holds Ne x y fails = equal_or x y fails

abbrev truth : Bool → Bool → Bounds
truth s t = cond s (between (pos 1) (pos 1)) (cond t (between (pos 0) (pos 0)) (between (pos 0) (pos 1)))

one_is : (s t : Bool) → truth s t ≡ between (pos 1) (pos 1) → s ≡ true
one_is true t e = refl
one_is false true e = absurd (omega (arith, ints, ap (λ (b : Bounds). b.lo) e))
one_is false false e = absurd (omega (arith, ints, ap (λ (b : Bounds). b.lo) e))

zero_is : (s t : Bool) → truth s t ≡ between (pos 0) (pos 0) → t ≡ true
zero_is true t e = absurd (omega (arith, ints, ap (λ (b : Bounds). b.lo) e))
zero_is false true e = refl
zero_is false false e = absurd (omega (arith, ints, ap (λ (b : Bounds). b.hi) e))

zero_from : (s t : Bool) → (s ≡ true → ⊥) → t ≡ true → truth s t ≡ between (pos 0) (pos 0)
zero_from true t never sure = absurd (never refl)
zero_from false true never sure = refl
zero_from false false never sure = absurd (cc)

one_inside : (s t : Bool) → (t ≡ true → ⊥) → Describes (truth s t) (pos 1)
one_inside true t never = (omega (arith, ints), omega (arith, ints))
one_inside false true never = absurd (never refl)
one_inside false false never = (omega (arith, ints), omega (arith, ints))

zero_inside : (s t : Bool) → (s ≡ true → ⊥) → Describes (truth s t) (pos 0)
zero_inside true t never = absurd (never refl)
zero_inside false true never = (omega (arith, ints), omega (arith, ints))
zero_inside false false never = (omega (arith, ints), omega (arith, ints))

pub comparison-all : (op : Cmp) (a b : Bounds) → a.lo ≤ℤ a.hi → b.lo ≤ℤ b.hi → (comparison op a b ≡ between (pos 1) (pos 1)) ↔ ((x y : ℤ) → Describes a x → Describes b y → Relates op x y)
comparison-all op a b p q = (
  λ e. Relates-surely op a b (one_is (surely op a b) (surely (opposite_of op) a b) e),
  λ each. rw (surely-Relates op a b p q each) refl,
)

pub comparison-none : (op : Cmp) (a b : Bounds) → a.lo ≤ℤ a.hi → b.lo ≤ℤ b.hi → (comparison op a b ≡ between (pos 0) (pos 0)) ↔ ((x y : ℤ) → Describes a x → Describes b y → Relates op x y → ⊥)
comparison-none op a b p q = (
  λ e x y left right. opposite-fails op x y (Relates-surely (opposite_of op) a b (zero_is (surely op a b) (surely (opposite_of op) a b) e) x y left right),
  λ none. zero_from (surely op a b) (surely (opposite_of op) a b)
      (λ sure. none a.lo b.lo (omega (arith, ints), p) (omega (arith, ints), q) (Relates-surely op a b sure a.lo b.lo (omega (arith, ints), p) (omega (arith, ints), q)))
      (surely-Relates (opposite_of op) a b p q (λ x y left right. opposite-holds op x y (none x y left right))),
)

pub comparison-holds : (op : Cmp) (a b : Bounds) (x y : ℤ) → Describes a x → Describes b y → Relates op x y → Describes (comparison op a b) (pos 1)
comparison-holds op a b x y left right holds =
    one_inside (surely op a b) (surely (opposite_of op) a b) (λ sure. opposite-fails op x y (Relates-surely (opposite_of op) a b sure x y left right) holds)

pub comparison-fails : (op : Cmp) (a b : Bounds) (x y : ℤ) → Describes a x → Describes b y → (Relates op x y → ⊥) → Describes (comparison op a b) (pos 0)
comparison-fails op a b x y left right fails =
    zero_inside (surely op a b) (surely (opposite_of op) a b) (λ sure. fails (Relates-surely op a b sure x y left right))

-- what is left of an interval
kept_some : (b : Bounds) (x : ℤ) → Describes b x → IsSomeAnd (unless_empty b) (λ i. Describes i x)
kept_some b x (low, high) = let some : int_le b.lo b.hi ≡ true = to_le b.lo b.hi (omega (arith, ints)) in rw some (low, high)

kept_within : (outer b : Bounds) (s : Bool) → Covers outer b → IfSome (cond s (Some b) None) (λ i. Covers outer i)
kept_within outer b true within = within
kept_within outer b false within = tt

eq_of : (x y : ℤ) → int_eq x y ≡ true → x ≡ y
eq_of x y e = grind (arith, ints)

-- an end that is dropped equals each number of the other interval, so x is another number
past_low_within : (low x y : ℤ) (b : Bounds) (s : Bool) → (int_eq b.lo b.hi && int_eq low b.lo) ≡ s → low ≤ℤ x → Describes b y → x ≢ y → cond s (low +ℤ pos 1) low ≤ℤ x
past_low_within low x y b true e order (l, h) other =
    let parts = and_parts (int_eq b.lo b.hi) (int_eq low b.lo) e in
    let one = eq_of b.lo b.hi parts.0 in
    let end = eq_of low b.lo parts.1 in
    by_lt_z low x (λ below. omega (arith, ints)) (λ above. absurd (other (same x y (omega (arith, ints)) (omega (arith, ints)))))
past_low_within low x y b false e order within other = order

past_high_within : (high x y : ℤ) (b : Bounds) (s : Bool) → (int_eq b.lo b.hi && int_eq high b.lo) ≡ s → x ≤ℤ high → Describes b y → x ≢ y → x ≤ℤ cond s (high -ℤ pos 1) high
past_high_within high x y b true e order (l, h) other =
    let parts = and_parts (int_eq b.lo b.hi) (int_eq high b.lo) e in
    let one = eq_of b.lo b.hi parts.0 in
    let end = eq_of high b.lo parts.1 in
    by_lt_z x high (λ below. omega (arith, ints)) (λ above. absurd (other (same x y (omega (arith, ints)) (omega (arith, ints)))))
past_high_within high x y b false e order within other = order

past_low_outside : (low : ℤ) (s : Bool) → low ≤ℤ cond s (low +ℤ pos 1) low
past_low_outside low true = omega (arith, ints)
past_low_outside low false = omega (arith, ints)

past_high_outside : (high : ℤ) (s : Bool) → cond s (high -ℤ pos 1) high ≤ℤ high
past_high_outside high true = omega (arith, ints)
past_high_outside high false = omega (arith, ints)

pub Describes-cut : (op : Cmp) (a b : Bounds) (x y : ℤ) → Describes a x → Describes b y → Relates op x y → Describes (cut op a b) x
Describes-cut Lt a b x y (l, h) (l', h') holds = (l, omega (arith, ints, clamps))
Describes-cut Le a b x y (l, h) (l', h') holds = (l, omega (arith, ints, clamps))
Describes-cut Gt a b x y (l, h) (l', h') holds = (omega (arith, ints, clamps), h)
Describes-cut Ge a b x y (l, h) (l', h') holds = (omega (arith, ints, clamps), h)
Describes-cut Eq a b x y (l, h) (l', h') holds = (omega (arith, ints, clamps), omega (arith, ints, clamps))
Describes-cut Ne a b x y (l, h) within holds = (
  past_low_within a.lo x y b (int_eq b.lo b.hi && int_eq a.lo b.lo) refl l within holds,
  past_high_within a.hi x y b (int_eq b.lo b.hi && int_eq a.hi b.lo) refl h within holds,
)

pub Covers-cut : (op : Cmp) (a b : Bounds) → Covers a (cut op a b)
Covers-cut Lt a b = (omega (arith, ints, clamps), omega (arith, ints, clamps))
Covers-cut Le a b = (omega (arith, ints, clamps), omega (arith, ints, clamps))
Covers-cut Gt a b = (omega (arith, ints, clamps), omega (arith, ints, clamps))
Covers-cut Ge a b = (omega (arith, ints, clamps), omega (arith, ints, clamps))
Covers-cut Eq a b = (omega (arith, ints, clamps), omega (arith, ints, clamps))
Covers-cut Ne a b = (past_low_outside a.lo (int_eq b.lo b.hi && int_eq a.lo b.lo), past_high_outside a.hi (int_eq b.lo b.hi && int_eq a.hi b.lo))

pub refined-keeps : (op : Cmp) (a b : Bounds) (x y : ℤ) → Describes a x → Describes b y → Relates op x y → IsSomeAnd (refined op a b) (λ i. Describes i x)
refined-keeps op a b x y left right holds = kept_some (cut op a b) x (Describes-cut op a b x y left right holds)

pub refined-within : (op : Cmp) (a b : Bounds) → IfSome (refined op a b) (λ i. Covers a i)
refined-within op a b = kept_within a (cut op a b) (int_le (cut op a b).lo (cut op a b).hi) (Covers-cut op a b)

eq_self : (n : ℤ) → int_eq n n ≡ true
eq_self n = grind (arith, ints)

not_eq : (x y : ℤ) → x ≢ y → int_eq x y ≡ false
not_eq x y other = by_lt_z x y (λ below. grind (arith, ints)) (λ above. by_lt_z y x (λ below. grind (arith, ints)) (λ above'. absurd (other (same x y above' above))))

pub past_low-dropped : (low n : ℤ) → low ≡ n → past_low low (between n n) ≡ n +ℤ pos 1
past_low-dropped low n e = rw (e, eq_self n) refl

pub past_low-kept : (low n : ℤ) → low ≢ n → past_low low (between n n) ≡ low
past_low-kept low n other = rw (eq_self n, not_eq low n other) refl

pub past_high-dropped : (high n : ℤ) → high ≡ n → past_high high (between n n) ≡ n -ℤ pos 1
past_high-dropped high n e = rw (e, eq_self n) refl

pub past_high-kept : (high n : ℤ) → high ≢ n → past_high high (between n n) ≡ high
past_high-kept high n other = rw (eq_self n, not_eq high n other) refl
