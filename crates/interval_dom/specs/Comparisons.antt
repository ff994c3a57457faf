-- The six comparisons of whole numbers, and what is known of them where intervals are.
use Rattle.std.specs.Prelude.{◌≡◌, ◌≢◌, ℤ, ◌+ℤ◌, ◌-ℤ◌, ◌≤ℤ◌, ◌<ℤ◌, pos, int_lt, int_le, Bool, ◌&&◌, ◌||◌, Option, if◌then◌else◌}
use Rattle.std.specs.Int.{int_min, int_max}
use Rattle.std.specs.Ordering.{int_eq}
use Rattle.interval_dom.specs.declared.cmp.Cmp.{Cmp}
use Rattle.interval_dom.specs.declared.cmp.Cmp.TheVariants.{Lt, Le, Gt, Ge, Eq, Ne}
use Rattle.interval_dom.specs.Bounds.{Bounds, between, unless_empty}

abbrev pub Relates : Cmp → ℤ → ℤ → Type 0
Relates Lt x y = x <ℤ y
Relates Le x y = x ≤ℤ y
Relates Gt x y = y <ℤ x
Relates Ge x y = y ≤ℤ x
Relates Eq x y = x ≡ y
Relates Ne x y = x ≢ y

-- the comparison that holds where this one fails
abbrev pub opposite_of : Cmp → Cmp
opposite_of Lt = Ge
opposite_of Le = Gt
opposite_of Gt = Le
opposite_of Ge = Lt
opposite_of Eq = Ne
opposite_of Ne = Eq

-- the comparison that holds of y and x where this one holds of x and y
abbrev pub turned_of : Cmp → Cmp
turned_of Lt = Gt
turned_of Le = Ge
turned_of Gt = Lt
turned_of Ge = Le
turned_of Eq = Eq
turned_of Ne = Ne

-- the comparison holds for all pairs of numbers of two intervals
abbrev pub surely : Cmp → Bounds → Bounds → Bool
surely Lt a b = int_lt a.hi b.lo
surely Le a b = int_le a.hi b.lo
surely Gt a b = int_lt b.hi a.lo
surely Ge a b = int_le b.hi a.lo
surely Eq a b = int_le a.hi b.lo && int_le b.hi a.lo
surely Ne a b = int_lt a.hi b.lo || int_lt b.hi a.lo

-- 1 where the comparison holds for all pairs, 0 where it holds for none, else one of the two
abbrev pub comparison : Cmp → Bounds → Bounds → Bounds
comparison op a b =
    if surely op a b
    then between (pos 1) (pos 1)
    else (if surely (opposite_of op) a b then between (pos 0) (pos 0) else between (pos 0) (pos 1))

-- one number more, or one less, where the end is the one number of y
abbrev pub past_low : ℤ → Bounds → ℤ
past_low low y = if int_eq y.lo y.hi && int_eq low y.lo then low +ℤ pos 1 else low

abbrev pub past_high : ℤ → Bounds → ℤ
past_high high y = if int_eq y.lo y.hi && int_eq high y.lo then high -ℤ pos 1 else high

-- what is left of x where it stands in the comparison with a number of y
abbrev pub cut : Cmp → Bounds → Bounds → Bounds
cut Lt x y = between x.lo (int_min x.hi (y.hi -ℤ pos 1))
cut Le x y = between x.lo (int_min x.hi y.hi)
cut Gt x y = between (int_max x.lo (y.lo +ℤ pos 1)) x.hi
cut Ge x y = between (int_max x.lo y.lo) x.hi
cut Eq x y = between (int_max x.lo y.lo) (int_min x.hi y.hi)
cut Ne x y = between (past_low x.lo y) (past_high x.hi y)

abbrev pub refined : Cmp → Bounds → Bounds → Option Bounds
refined op x y = unless_empty (cut op x y)
