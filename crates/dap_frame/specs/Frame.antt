-- The bytes that carry a content.
use Rattle.std.specs.Prelude.{ℕ, List, ◌++◌, length, codes, decimal}

abbrev pub framed : List ℕ → List ℕ
framed content = codes "Content-Length: " ++ decimal (length content) ++ codes "\r\n\r\n" ++ content
