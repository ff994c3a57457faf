-- What the texts of requests, faults and messages are.
use Rattle.std.specs.Prelude.{ℕ, List, IsUtf8}

-- it is UTF-8
unfoldable pub IsText : List ℕ → Type 0
IsText bytes = IsUtf8 bytes
