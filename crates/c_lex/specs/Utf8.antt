-- How far a text is UTF-8.
use Rattle.std.specs.Prelude.{ℕ, Option, Some, None, ◌==◌, if◌then◌else◌, List, length, slice_index}
use Rattle.std.specs.Int.{is_in_range}

-- of bytes that no character begins, how many could begin one, from how many std takes for one fault
abbrev pub begun_length_of : List ℕ → Option ℕ → ℕ
begun_length_of rest None = length rest
begun_length_of rest (Some k) = if k == 1 then (if is_in_range 0xC2 0xF4 (slice_index rest 0) then 1 else 0) else k
