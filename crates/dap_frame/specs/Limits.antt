-- The limits of a message.
use Rattle.std.specs.Prelude.{ℕ}

-- an empty line ends within so many bytes of a header
abbrev pub header_limit : ℕ
header_limit = 4096

-- a content has at most so many bytes
abbrev pub content_limit : ℕ
content_limit = 1048576
