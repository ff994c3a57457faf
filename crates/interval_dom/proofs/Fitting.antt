-- Numbers that are wrapped to a width, and intervals that are fitted to it.
use Rattle.std.proofs.Common.{◌≡◌, ℤ, ◌≤ℤ◌, ◌+ℤ◌, ◌-ℤ◌, neg_ℤ, Bool, true, false, cond, arith, refl, sym, subst, FitsSigned, w64}
use Rattle.std.specs.Prelude.{int_le}
use Rattle.std.proofs.lemmas.Bool.{and_parts}
use Rattle.std.proofs.lemmas.Int.{ints, int_wrap_fits, SFits-int_wrap}
use Rattle.interval_dom.specs.declared.width.Width.{Width}
use Rattle.interval_dom.specs.declared.width.Width.TheVariants.{W32, W64}
use Rattle.interval_dom.specs.Bounds.{Bounds, between, Describes, Covers, covers}
use Rattle.interval_dom.specs.Ranges.{machine, least, greatest, full, IsOfWidth, wrapped, fitted, sums, differences, opposites}

fits_machine : (w : Width) (z : ℤ) → IsOfWidth w z → FitsSigned (machine w) z
fits_machine W32 z (low, high) = omega (arith, ints)
fits_machine W64 z (low, high) = omega (arith, ints)

of_width : (w : Width) (z : ℤ) → FitsSigned (machine w) z → IsOfWidth w z
of_width W32 z fits = (omega (arith, ints), omega (arith, ints))
of_width W64 z fits = (omega (arith, ints), omega (arith, ints))

-- wrapping leaves a number of the width alone, and gives one of the width
pub wrapped-of_width : (w : Width) (z : ℤ) → IsOfWidth w z → wrapped w z ≡ z
wrapped-of_width w z within = int_wrap_fits (machine w) z (fits_machine w z within)

pub IsOfWidth-wrapped : (w : Width) (z : ℤ) → IsOfWidth w (wrapped w z)
IsOfWidth-wrapped w z = of_width w (wrapped w z) (SFits-int_wrap (machine w) z)

inside : (w : Width) (b : Bounds) (z : ℤ) → covers (full w) b ≡ true → Describes b z → IsOfWidth w z
inside w b z fits (low, high) =
    let ends = and_parts (int_le (least w) b.lo) (int_le b.hi (greatest w)) fits in
    (grind (arith, ints), grind (arith, ints))

fitted_step : (w : Width) (b : Bounds) (z : ℤ) (fits : Bool) → covers (full w) b ≡ fits → Describes b z → Describes (cond fits b (full w)) (wrapped w z)
fitted_step w b z true e within = subst (Describes b) (sym (wrapped-of_width w z (inside w b z e within))) within
fitted_step w b z false e within = IsOfWidth-wrapped w z

-- what is wrapped stands in the fitted interval
pub Describes-fitted : (w : Width) (b : Bounds) (z : ℤ) → Describes b z → Describes (fitted w b) (wrapped w z)
Describes-fitted w b z within = fitted_step w b z (covers (full w) b) refl within

pub Describes-sums : (a b : Bounds) (x y : ℤ) → Describes a x → Describes b y → Describes (sums a b) (x +ℤ y)
Describes-sums a b x y (low, high) (low', high') = (omega (arith, ints), omega (arith, ints))

-- an interval whose ends are of the width is itself
pub fitted-covered : (w : Width) (lo hi : ℤ) → least w ≤ℤ lo → hi ≤ℤ greatest w → fitted w (between lo hi) ≡ between lo hi
fitted-covered w lo hi low high =
    let first : int_le (least w) lo ≡ true = grind (arith, ints) in
    let second : int_le hi (greatest w) ≡ true = grind (arith, ints) in
    rw (first, second) refl

-- a number of either width has 64 bits
pub FitsSigned-of_width : (w : Width) (z : ℤ) → IsOfWidth w z → FitsSigned w64 z
FitsSigned-of_width W32 z (low, high) = omega (arith, ints)
FitsSigned-of_width W64 z (low, high) = omega (arith, ints)

pub Describes-differences : (a b : Bounds) (x y : ℤ) → Describes a x → Describes b y → Describes (differences a b) (x -ℤ y)
Describes-differences a b x y (low, high) (low', high') = (omega (arith, ints), omega (arith, ints))

pub Describes-opposites : (a : Bounds) (x : ℤ) → Describes a x → Describes (opposites a) (neg_ℤ x)
Describes-opposites a x (low, high) = (omega (arith, ints), omega (arith, ints))

covers_step : (w : Width) (b : Bounds) (fits : Bool) → covers (full w) b ≡ fits → Covers (full w) (cond fits b (full w))
covers_step w b true e =
    let ends = and_parts (int_le (least w) b.lo) (int_le b.hi (greatest w)) e in
    (grind (arith, ints), grind (arith, ints))
covers_step w b false e = (omega (arith, ints), omega (arith, ints))

-- what is fitted lies in the width
pub Covers-fitted : (w : Width) (b : Bounds) → Covers (full w) (fitted w b)
Covers-fitted w b = covers_step w b (covers (full w) b) refl
