-- Counts of calls and of faults: numbers that never fall, and that stop at the greatest number of
-- 64 bits.
use Rattle.std.specs.Prelude.{◌≡◌, ◌⊎◌, ℕ, ◌+◌, ◌-◌, ◌^◌, ◌<◌, min, List, Bool, nat_eq}
use Rattle.std.specs.List.{list_any}

-- the count after one more
abbrev pub one_more : ℕ → ℕ
one_more count = min (count + 1) (2 ^ 64 - 1)

-- the count grew, or it stands at the greatest number
abbrev pub Rose : ℕ → ℕ → Type 0
Rose old new = (old < new) ⊎ ((old ≡ 2 ^ 64 - 1) × (new ≡ 2 ^ 64 - 1))

-- whether the next call, counted from 1, is one of those that fail
abbrev pub fails_next : List ℕ → ℕ → Bool
fails_next failing calls = list_any (λ call. nat_eq call (one_more calls)) failing
