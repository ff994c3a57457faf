-- The parts of the spelling of a number.
use Rattle.std.specs.Prelude.{ℕ, ◌-◌, Bool, ◌||◌, ◌==◌, if◌then◌else◌, List, length, take, slice_index}

abbrev pub is_suffix : ℕ → Bool
is_suffix b = b == 76 || b == 108

-- the run without the suffix that it may end with
abbrev pub without_suffix_of : List ℕ → List ℕ
without_suffix_of run = let last = length run - 1 in if is_suffix (slice_index run last) then take last run else run
