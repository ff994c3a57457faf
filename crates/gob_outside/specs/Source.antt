-- What a read does to the bytes of a source.
use Rattle.std.specs.Prelude.{◌≡◌, ℕ, List, take, drop, Option, None, Some}

-- a read put the first n of the bytes that were left at the front of its room, and left the others,
-- where the bytes are told
abbrev pub Takes : Option (List ℕ) → ℕ → List ℕ → Option (List ℕ) → Type 0
Takes None n into after = after ≡ None
Takes (Some left) n into after = (after ≡ Some (drop n left)) × (take n into ≡ take n left)
