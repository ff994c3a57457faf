-- Where quotients and remainders lie.
use Rattle.std.proofs.Common.{◌≡◌, ◌≢◌, ℕ, zero, suc, ◌-◌, ◌/◌, ◌%◌, ◌<◌, ◌≤◌, max, ℤ, pos, negsuc, ◌≤ℤ◌, ◌<ℤ◌, neg_ℤ, nat_eq, int_lt, int_div, int_rem, unsigned_abs, Bool, true, false, cond, Option, Some, None, IsSomeAnd, IfSome, option_map, arith, refl}
use Rattle.std.specs.Int.{int_min, int_max}
use Rattle.std.proofs.lemmas.Int.{ints, clamps}
use Rattle.std.proofs.lemmas.Bool.Decides.{nat_tests}
use Rattle.std.proofs.lemmas.Nat.{le-div}
use Rattle.std.proofs.Math.Nat.{div-mul-le_self, mul-le-mul_left, mod-lt, mod-le}
use Rattle.interval_dom.specs.declared.width.Width.{Width}
use Rattle.interval_dom.specs.declared.width.Width.TheVariants.{W32, W64}
use Rattle.interval_dom.specs.Bounds.{Bounds, between, Describes, Covers}
use Rattle.interval_dom.specs.Ranges.{least, greatest, full, fitted, wrapped, corners, IsOfWidth}
use Rattle.interval_dom.specs.Quotients.{below_zero, above_zero, quotients_by, hull_of, quotients, greatest_abs, remainder_range, remainders}
use Rattle.interval_dom.proofs.Corners.{IsBetween, IsBetween-rising, IsBetween-falling, IsBetween-neg_ℤ, Describes-extremes}
use Rattle.interval_dom.proofs.Fitting.{Describes-fitted, wrapped-of_width}

div_rises : (a b n : ℕ) → 0 < n → a ≤ b → a / n ≤ b / n
div_rises a b n some order = le-div (a / n) b n some (omega (arith, div-mul-le_self a n))

div_falls : (a m n : ℕ) → 0 < m → m ≤ n → a / n ≤ a / m
div_falls a m n some order = le-div (a / n) a m some (omega (arith, div-mul-le_self a n, mul-le-mul_left (a / n) order))

-- by a divisor above zero the quotient rises with the dividend
quotient_rises : (x y : ℤ) (n : ℕ) → 0 < n → x ≤ℤ y → int_div x (pos n) ≤ℤ int_div y (pos n)
quotient_rises (pos a) (pos b) n some order = let h = div_rises a b n some (omega (arith, ints)) in omega (arith, ints)
quotient_rises (pos a) (negsuc b) n some order = absurd (omega (arith, ints))
quotient_rises (negsuc a) (pos b) n some order = omega (arith, ints)
quotient_rises (negsuc a) (negsuc b) n some order = let h = div_rises (suc b) (suc a) n some (omega (arith, ints)) in omega (arith, ints)

-- a divisor of the other sign gives the quotient of the other sign
int_div-negsuc : (x : ℤ) (n : ℕ) → int_div x (negsuc n) ≡ neg_ℤ (int_div x (pos (suc n)))
int_div-negsuc (pos a) n = refl
int_div-negsuc (negsuc a) n = omega (arith, ints)

above : (n : ℕ) → pos n ≢ pos 0 → 0 < n
above zero other = absurd (other refl)
above (suc n) other = omega arith

IsBetween-dividends : (low x high d : ℤ) → low ≤ℤ x → x ≤ℤ high → d ≢ pos 0 → IsBetween (int_div low d) (int_div x d) (int_div high d)
IsBetween-dividends low x high (pos n) first last other =
    IsBetween-rising _ _ _ (quotient_rises low x n (above n other) first) (quotient_rises x high n (above n other) last)
IsBetween-dividends low x high (negsuc n) first last other =
    rw (int_div-negsuc low n, int_div-negsuc x n, int_div-negsuc high n)
    (IsBetween-falling _ _ _
    (let h = quotient_rises x high (suc n) (omega arith) last in omega (arith, ints))
    (let h = quotient_rises low x (suc n) (omega arith) first in omega (arith, ints)))

-- along divisors above zero
IsBetween-divisors : (x : ℤ) (low d high : ℕ) → 0 < low → low ≤ d → d ≤ high → IsBetween (int_div x (pos low)) (int_div x (pos d)) (int_div x (pos high))
IsBetween-divisors (pos a) low d high some first last =
    let p = div_falls a low d some first in
    let q = div_falls a d high (omega arith) last in
    IsBetween-falling _ _ _ (omega (arith, ints)) (omega (arith, ints))
IsBetween-divisors (negsuc a) low d high some first last =
    let p = div_falls (suc a) low d some first in
    let q = div_falls (suc a) d high (omega arith) last in
    IsBetween-rising _ _ _ (omega (arith, ints)) (omega (arith, ints))

IsBetween-above : (x low d high : ℤ) → pos 0 <ℤ low → low ≤ℤ d → d ≤ℤ high → IsBetween (int_div x low) (int_div x d) (int_div x high)
IsBetween-above x (pos l) (pos m) (pos h) some first last = IsBetween-divisors x l m h (omega (arith, ints)) (omega (arith, ints)) (omega (arith, ints))
IsBetween-above x (pos l) (pos m) (negsuc h) some first last = absurd (omega (arith, ints))
IsBetween-above x (pos l) (negsuc m) high some first last = absurd (omega (arith, ints))
IsBetween-above x (negsuc l) d high some first last = absurd (omega (arith, ints))

IsBetween-below : (x low d high : ℤ) → high <ℤ pos 0 → low ≤ℤ d → d ≤ℤ high → IsBetween (int_div x low) (int_div x d) (int_div x high)
IsBetween-below x (negsuc l) (negsuc m) (negsuc h) some first last =
    rw (int_div-negsuc x l, int_div-negsuc x m, int_div-negsuc x h)
    (IsBetween-neg_ℤ _ _ _ (IsBetween-divisors x (suc h) (suc m) (suc l) (omega (arith, ints)) (omega (arith, ints)) (omega (arith, ints))))
IsBetween-below x (pos l) d (negsuc h) some first last = absurd (omega (arith, ints))
IsBetween-below x (negsuc l) (pos m) (negsuc h) some first last = absurd (omega (arith, ints))
IsBetween-below x low d (pos h) some first last = absurd (omega (arith, ints))

-- the quotient stands between those at the corners
Describes-corners : (a : Bounds) (low high x y : ℤ) → Describes a x → y ≢ pos 0 → ((z : ℤ) → IsBetween (int_div z low) (int_div z y) (int_div z high)) → Describes (corners int_div a (between low high)) (int_div x y)
Describes-corners a low high x y (first, last) other along =
    Describes-extremes _ _ _ _ (int_div a.lo y) (int_div a.hi y) (int_div x y) (along a.lo) (along a.hi) (IsBetween-dividends a.lo x a.hi y first last other)

hull_of_left : (p : Bounds) (q : Option Bounds) (z : ℤ) → Describes p z → IsSomeAnd (hull_of (Some p) q) (λ h. Describes h z)
hull_of_left p None z within = within
hull_of_left p (Some q) z (low, high) = (omega (arith, ints, clamps), omega (arith, ints, clamps))

hull_of_right : (p : Option Bounds) (q : Bounds) (z : ℤ) → Describes q z → IsSomeAnd (hull_of p (Some q)) (λ h. Describes h z)
hull_of_right None q z within = within
hull_of_right (Some p) q z (low, high) = (omega (arith, ints, clamps), omega (arith, ints, clamps))

by_positive : (a b : Bounds) (x y : ℤ) → Describes a x → Describes b y → pos 0 <ℤ y → IsSomeAnd (quotients a b) (λ q. Describes q (int_div x y))
by_positive a b x y left (low, high) positive =
    let some : int_lt (pos 0) b.hi ≡ true = grind (arith, ints) in
    rw some (hull_of_right (quotients_by a (below_zero b)) (corners int_div a (between (int_max b.lo (pos 1)) b.hi)) (int_div x y)
    (Describes-corners a (int_max b.lo (pos 1)) b.hi x y left (λ zero. omega (arith, ints, zero)) (λ z. IsBetween-above z (int_max b.lo (pos 1)) y b.hi (omega (arith, ints, clamps)) (omega (arith, ints, clamps)) high)))

by_negative : (a b : Bounds) (x y : ℤ) → Describes a x → Describes b y → y <ℤ pos 0 → IsSomeAnd (quotients a b) (λ q. Describes q (int_div x y))
by_negative a b x y left (low, high) negative =
    let some : int_lt b.lo (pos 0) ≡ true = grind (arith, ints) in
    rw some (hull_of_left (corners int_div a (between b.lo (int_min b.hi (negsuc 0)))) (quotients_by a (above_zero b)) (int_div x y)
    (Describes-corners a b.lo (int_min b.hi (negsuc 0)) x y left (λ zero. omega (arith, ints, zero)) (λ z. IsBetween-below z b.lo y (int_min b.hi (negsuc 0)) (omega (arith, ints, clamps)) low (omega (arith, ints, clamps)))))

pub IsSomeAnd-quotients : (a b : Bounds) (x y : ℤ) → Describes a x → Describes b y → y ≢ pos 0 → IsSomeAnd (quotients a b) (λ q. Describes q (int_div x y))
IsSomeAnd-quotients a b x (pos n) left right other = by_positive a b x (pos n) left right (omega (arith, ints, above n other))
IsSomeAnd-quotients a b x (negsuc n) left right other = by_negative a b x (negsuc n) left right (omega (arith, ints))

fitted_some : (w : Width) (o : Option Bounds) (z : ℤ) → IsSomeAnd o (λ q. Describes q z) → IsSomeAnd (option_map (fitted w) o) (λ i. Describes i (wrapped w z))
fitted_some w None z within = within
fitted_some w (Some q) z within = Describes-fitted w q z within

pub IsSomeAnd-fitted_quotients : (w : Width) (a b : Bounds) (x y : ℤ) → Describes a x → Describes b y → y ≢ pos 0 → IsSomeAnd (option_map (fitted w) (quotients a b)) (λ i. Describes i (wrapped w (int_div x y)))
IsSomeAnd-fitted_quotients w a b x y left right other = fitted_some w (quotients a b) (int_div x y) (IsSomeAnd-quotients a b x y left right other)

largest : (l y h : ℤ) → l ≤ℤ y → y ≤ℤ h → unsigned_abs y ≤ max (unsigned_abs l) (unsigned_abs h)
largest l (pos n) (pos m) low high = let order : n ≤ m = omega (arith, ints) in omega arith
largest l (pos n) (negsuc m) low high = absurd (omega (arith, ints))
largest (pos m) (negsuc n) h low high = absurd (omega (arith, ints))
largest (negsuc m) (negsuc n) h low high = let order : n ≤ m = omega (arith, ints) in omega arith

some_divisor : (y : ℤ) → y ≢ pos 0 → 0 < unsigned_abs y
some_divisor (pos n) other = above n other
some_divisor (negsuc n) other = omega arith

below_test : (low : ℤ) → int_lt low (pos 0) ≡ true → low <ℤ pos 0
below_test low e = grind (arith, ints)

not_below_test : (low : ℤ) → int_lt low (pos 0) ≡ false → pos 0 ≤ℤ low
not_below_test low e = grind (arith, ints)

above_test : (high : ℤ) → int_lt (pos 0) high ≡ true → pos 0 <ℤ high
above_test high e = grind (arith, ints)

not_above_test : (high : ℤ) → int_lt (pos 0) high ≡ false → high ≤ℤ pos 0
not_above_test high e = grind (arith, ints)

low_side : (low : ℤ) (g : ℕ) (z : ℤ) (b : Bool) → int_lt low (pos 0) ≡ b → neg_ℤ (pos (g - 1)) ≤ℤ z → (low <ℤ pos 0 → low ≤ℤ z) → (pos 0 ≤ℤ low → pos 0 ≤ℤ z) → cond b (int_max low (neg_ℤ (pos (g - 1)))) (pos 0) ≤ℤ z
low_side low g z true e near below above = let h = below (below_test low e) in omega (arith, ints, clamps)
low_side low g z false e near below above = above (not_below_test low e)

high_side : (high : ℤ) (g : ℕ) (z : ℤ) (b : Bool) → int_lt (pos 0) high ≡ b → z ≤ℤ pos (g - 1) → (pos 0 <ℤ high → z ≤ℤ high) → (high ≤ℤ pos 0 → z ≤ℤ pos 0) → z ≤ℤ cond b (int_min high (pos (g - 1))) (pos 0)
high_side high g z true e near above below = let h = above (above_test high e) in omega (arith, ints, clamps)
high_side high g z false e near above below = below (not_above_test high e)

remainder_of : (a b : Bounds) (x y : ℤ) → Describes a x → Describes b y → y ≢ pos 0 → Describes (remainder_range a b) (int_rem x y)
remainder_of a b (pos n) y (low, high) (low', high') other =
    let near = mod-lt n (some_divisor y other) in
    let most = largest b.lo y b.hi low' high' in
    let least = mod-le n (unsigned_abs y) in (
      low_side a.lo (greatest_abs b) (pos (n % unsigned_abs y)) (int_lt a.lo (pos 0)) refl (omega (arith, ints)) (λ h. omega (arith, ints)) (λ h. omega (arith, ints)),
      high_side a.hi (greatest_abs b) (pos (n % unsigned_abs y)) (int_lt (pos 0) a.hi) refl (omega (arith, ints)) (λ h. omega (arith, ints)) (λ h. omega (arith, ints)),
    )
remainder_of a b (negsuc n) y (low, high) (low', high') other =
    let near = mod-lt (suc n) (some_divisor y other) in
    let most = largest b.lo y b.hi low' high' in
    let least = mod-le (suc n) (unsigned_abs y) in (
      low_side a.lo (greatest_abs b) (neg_ℤ (pos (suc n % unsigned_abs y))) (int_lt a.lo (pos 0)) refl (omega (arith, ints)) (λ h. omega (arith, ints)) (λ h. omega (arith, ints)),
      high_side a.hi (greatest_abs b) (neg_ℤ (pos (suc n % unsigned_abs y))) (int_lt (pos 0) a.hi) refl (omega (arith, ints)) (λ h. omega (arith, ints)) (λ h. omega (arith, ints)),
    )

pub IsSomeAnd-remainders : (a b : Bounds) (x y : ℤ) → Describes a x → Describes b y → y ≢ pos 0 → IsSomeAnd (remainders a b) (λ i. Describes i (int_rem x y))
IsSomeAnd-remainders a b x y left (low, high) other =
    let most = largest b.lo y b.hi low high in
    let some = some_divisor y other in
    let real : nat_eq (greatest_abs b) 0 ≡ false = grind (arith, nat_tests) in
    rw real (remainder_of a b x y left (low, high) other)

-- a remainder is of the width of the dividend
pub IsOfWidth-int_rem : (w : Width) (x y : ℤ) → IsOfWidth w x → IsOfWidth w (int_rem x y)
IsOfWidth-int_rem W32 (pos n) y (low, high) = let least = mod-le n (unsigned_abs y) in (omega (arith, ints), omega (arith, ints))
IsOfWidth-int_rem W32 (negsuc n) y (low, high) = let least = mod-le (suc n) (unsigned_abs y) in (omega (arith, ints), omega (arith, ints))
IsOfWidth-int_rem W64 (pos n) y (low, high) = let least = mod-le n (unsigned_abs y) in (omega (arith, ints), omega (arith, ints))
IsOfWidth-int_rem W64 (negsuc n) y (low, high) = let least = mod-le (suc n) (unsigned_abs y) in (omega (arith, ints), omega (arith, ints))

pub wrapped-int_rem : (w : Width) (x y : ℤ) → IsOfWidth w x → wrapped w (int_rem x y) ≡ int_rem x y
wrapped-int_rem w x y within = wrapped-of_width w (int_rem x y) (IsOfWidth-int_rem w x y within)

low_covered : (w : Width) (low : ℤ) (g : ℕ) (b : Bool) → least w ≤ℤ low → least w ≤ℤ cond b (int_max low (neg_ℤ (pos (g - 1)))) (pos 0)
low_covered w low g true order = omega (arith, ints, clamps)
low_covered W32 low g false order = omega (arith, ints)
low_covered W64 low g false order = omega (arith, ints)

high_covered : (w : Width) (high : ℤ) (g : ℕ) (b : Bool) → high ≤ℤ greatest w → cond b (int_min high (pos (g - 1))) (pos 0) ≤ℤ greatest w
high_covered w high g true order = omega (arith, ints, clamps)
high_covered W32 high g false order = omega (arith, ints)
high_covered W64 high g false order = omega (arith, ints)

covered_remainders : (w : Width) (a b : Bounds) (s : Bool) → Covers (full w) a → IfSome (cond s None (Some (remainder_range a b))) (λ i. Covers (full w) i)
covered_remainders w a b true within = tt
covered_remainders w a b false (low, high) = (low_covered w a.lo (greatest_abs b) (int_lt a.lo (pos 0)) low, high_covered w a.hi (greatest_abs b) (int_lt (pos 0) a.hi) high)

-- remainders of dividends of a width are of that width
pub Covers-remainders : (w : Width) (a b : Bounds) → Covers (full w) a → IfSome (remainders a b) (λ i. Covers (full w) i)
Covers-remainders w a b within = covered_remainders w a b (nat_eq (greatest_abs b) 0) within
