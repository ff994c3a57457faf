-- What a scan finds at a place.
use Rattle.std.specs.Prelude.{◌≡◌, ℕ, ◌<◌, ◌≤◌, ◌⊎◌, Bool, IsTrue, List, length, take, drop}
use Rattle.c_lex.specs.declared.piece.Found.{Found}
use Rattle.c_lex.specs.Pieces.{IsLongest, Begins, is_mark}

-- what was found is the longest piece that begins the text
pub record FindsPiece (leads : Bool) (text : List ℕ) (found : Found) : Type 0 where
  pub within : found.length ≤ length text
  pub longest : IsLongest leads found.shape (take found.length text) (drop found.length text)

-- the first n bytes are a mark, and each other one that begins the text is shorter
pub record IsLongestMark (text : List ℕ) (n : ℕ) : Type 0 where
  pub within : n ≤ length text
  pub mark : IsTrue (is_mark (take n text))
  pub longest : (q : List ℕ) → IsTrue (is_mark q) → Begins q text → (q ≡ take n text) ⊎ (length q < n)

-- no mark begins the text
abbrev pub NoMark : List ℕ → Type 0
NoMark text = (q : List ℕ) → IsTrue (is_mark q) → ¬ (Begins q text)
