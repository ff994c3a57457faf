-- The places of a text: lines, and bytes in a line, both counted from 1.
use Rattle.std.specs.Prelude.{ℕ, ◌+◌, ◌<◌, ◌≤◌, Bool, List, ◌++◌, length, take, count_by, IsUtf8}
use Rattle.std.specs.List.{list_all, after_last}
use Rattle.gob_tree.specs.declared.place.Place.{Place}
use Rattle.c_lex.specs.Pieces.{is_line_end, is_space}

-- what stands before a place on its line
abbrev pub line_before : List ℕ → List ℕ
line_before before = after_last is_line_end before

-- the place after these bytes
abbrev pub place_after : List ℕ → Place
place_after before = record { line = 1 + count_by is_line_end before; column = 1 + length (line_before before) }

-- only blanks and tabs stand before the place on its line
abbrev pub leads_line : List ℕ → Bool
leads_line before = list_all is_space (line_before before)

-- the bytes can go on to a text in UTF-8
abbrev pub BeginsUtf8 : List ℕ → Type 0
BeginsUtf8 bytes = (more : List ℕ) × IsUtf8 (bytes ++ more)

-- the text is not UTF-8, and its first n bytes are all that can go on to be: the next can't, or none follows
pub record BreaksUtf8 (text : List ℕ) (n : ℕ) : Type 0 where
  pub broken : ¬ (IsUtf8 text)
  pub within : n ≤ length text
  pub begins : BeginsUtf8 (take n text)
  pub stops : n < length text → ¬ (BeginsUtf8 (take (n + 1) text))
