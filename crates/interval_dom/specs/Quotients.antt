-- Division as C has it: the quotient is cut off towards zero, and the remainder has the sign of the dividend.
use Rattle.std.specs.Prelude.{ℕ, ◌-◌, max, pos, negsuc, neg_ℤ, nat_eq, int_lt, int_div, unsigned_abs, Option, Some, None, if◌then◌else◌}
use Rattle.std.specs.Int.{int_min, int_max}
use Rattle.interval_dom.specs.Bounds.{Bounds, between, hull}
use Rattle.interval_dom.specs.Ranges.{corners}

-- the numbers of an interval that are below zero, and those above it, where there are some
abbrev pub below_zero : Bounds → Option Bounds
below_zero b = if int_lt b.lo (pos 0) then Some (between b.lo (int_min b.hi (negsuc 0))) else None

abbrev pub above_zero : Bounds → Option Bounds
above_zero b = if int_lt (pos 0) b.hi then Some (between (int_max b.lo (pos 1)) b.hi) else None

-- the quotients by divisors of one sign
abbrev pub quotients_by : Bounds → Option Bounds → Option Bounds
quotients_by a None = None
quotients_by a (Some divisors) = Some (corners int_div a divisors)

-- the least interval that covers those that are there
abbrev pub hull_of : Option Bounds → Option Bounds → Option Bounds
hull_of None q = q
hull_of (Some p) None = Some p
hull_of (Some p) (Some q) = Some (hull p q)

-- the quotients by all divisors but zero
abbrev pub quotients : Bounds → Bounds → Option Bounds
quotients a b = hull_of (quotients_by a (below_zero b)) (quotients_by a (above_zero b))

-- the greatest absolute value in an interval
abbrev pub greatest_abs : Bounds → ℕ
greatest_abs b = max (unsigned_abs b.lo) (unsigned_abs b.hi)

-- from zero to the dividend, and nearer to zero than the greatest divisor
abbrev pub remainder_range : Bounds → Bounds → Bounds
remainder_range a b =
    between
    (if int_lt a.lo (pos 0) then int_max a.lo (neg_ℤ (pos (greatest_abs b - 1))) else pos 0)
    (if int_lt (pos 0) a.hi then int_min a.hi (pos (greatest_abs b - 1)) else pos 0)

-- the remainders by all divisors but zero
abbrev pub remainders : Bounds → Bounds → Option Bounds
remainders a b = if nat_eq (greatest_abs b) 0 then None else Some (remainder_range a b)
