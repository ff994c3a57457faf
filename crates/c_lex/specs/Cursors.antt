-- Where a scan stands in a text.
use Rattle.std.specs.Prelude.{◌≡◌, ℕ, ◌≤◌, List, length, take}
use Rattle.c_lex.specs.declared.cursor.Cursor.{Cursor}
use Rattle.c_lex.specs.Places.{place_after, leads_line}

-- the cursor tells the place after the bytes before it
pub record StandsIn (text : List ℕ) (cursor : Cursor) : Type 0 where
  pub within : cursor.at ≤ length text
  pub place : cursor.place ≡ place_after (take cursor.at text)
  pub leads : cursor.leads ≡ leads_line (take cursor.at text)
