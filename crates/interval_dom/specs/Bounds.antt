-- What an interval is: its two ends, and the numbers between them.
use Rattle.std.specs.Prelude.{ℤ, ◌≤ℤ◌, Bool, ◌&&◌, int_le, Option, Some, None, if◌then◌else◌}
use Rattle.std.specs.Int.{int_min, int_max}

-- the least and the greatest number of an interval
pub record Bounds : Type 0 where
  pub lo : ℤ
  pub hi : ℤ

-- the interval from one number to another
abbrev pub between : ℤ → ℤ → Bounds
between low high = record { lo = low; hi = high }

-- n is a number of the interval
abbrev pub Describes : Bounds → ℤ → Type 0
Describes b n = (b.lo ≤ℤ n) × (n ≤ℤ b.hi)

-- each number of the inner interval is one of the outer
abbrev pub Covers : Bounds → Bounds → Type 0
Covers outer inner = (outer.lo ≤ℤ inner.lo) × (inner.hi ≤ℤ outer.hi)

abbrev pub covers : Bounds → Bounds → Bool
covers outer inner = int_le outer.lo inner.lo && int_le inner.hi outer.hi

-- the least interval that covers both
abbrev pub hull : Bounds → Bounds → Bounds
hull a b = between (int_min a.lo b.lo) (int_max a.hi b.hi)

-- an interval, where it has numbers
abbrev pub unless_empty : Bounds → Option Bounds
unless_empty b = if int_le b.lo b.hi then Some b else None
