-- Columns of numbers of 64 bits, place by place.
use Rattle.std.specs.Prelude.{◌≡◌, ℕ, ℤ, pos, Bool, ◌&&◌, List, length, slice_index_or, int_le, All, FitsSigned, if◌then◌else◌}
use Rattle.std.specs.Int.{w64}
use Rattle.std.specs.Cmp.Lexicographic.{pointwise}

-- the number of a column at a place
abbrev pub at_place : List ℤ → ℕ → ℤ
at_place column k = slice_index_or column k (pos 0)

-- no number of the first column is above that of the second at its place
abbrev pub all_at_most : List ℤ → List ℤ → Bool
all_at_most xs ys = pointwise int_le xs ys

-- each interval of the inner columns lies in that of the outer ones at its place
abbrev pub all_covered : List ℤ → List ℤ → List ℤ → List ℤ → Bool
all_covered inner_lo inner_hi outer_lo outer_hi = all_at_most outer_lo inner_lo && all_at_most inner_hi outer_hi

-- four numbers of 64 bits
abbrev pub IsFour : List ℤ → Type 0
IsFour xs = (length xs ≡ 4) × All (FitsSigned w64) xs

-- 1 for true, 0 for false
abbrev pub bit_of : Bool → ℕ
bit_of b = if b then 1 else 0
