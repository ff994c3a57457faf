-- The six comparisons of whole numbers, and whether some number between two ends stands in one.
use Rattle.std.specs.Prelude.{◌≡◌, ◌≢◌, ℤ, ◌≤ℤ◌, ◌<ℤ◌, int_lt, int_le, Bool, ◌&&◌, ◌||◌}
use Rattle.lane_bounds.specs.declared.cmp.Cmp.{Cmp}
use Rattle.lane_bounds.specs.declared.cmp.Cmp.TheVariants.{Lt, Le, Gt, Ge, Eq, Ne}

abbrev pub Relates : Cmp → ℤ → ℤ → Type 0
Relates Lt x y = x <ℤ y
Relates Le x y = x ≤ℤ y
Relates Gt x y = y <ℤ x
Relates Ge x y = y ≤ℤ x
Relates Eq x y = x ≡ y
Relates Ne x y = x ≢ y

-- some number from low to high stands in the comparison with c
abbrev pub HoldsForSome : Cmp → ℤ → ℤ → ℤ → Type 0
HoldsForSome op c low high = (x : ℤ) × (low ≤ℤ x) × (x ≤ℤ high) × Relates op x c

-- the same as a test of the ends
abbrev pub holds_for_some : Cmp → ℤ → ℤ → ℤ → Bool
holds_for_some Lt c low high = int_le low high && int_lt low c
holds_for_some Le c low high = int_le low high && int_le low c
holds_for_some Gt c low high = int_le low high && int_lt c high
holds_for_some Ge c low high = int_le low high && int_le c high
holds_for_some Eq c low high = int_le low c && int_le c high
holds_for_some Ne c low high = int_le low high && (int_lt low c || int_lt c high)
