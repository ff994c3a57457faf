-- Rows of unknowns, as the list of the entries of a map.
use Rattle.std.specs.Prelude.{map, ◌≡◌, ◌↔◌, ◌<◌, Contains, List, [], Option, None, Some, vec_len}
use Rattle.std.specs.Global.{Vec}
use Rattle.std.specs.List.{AllPairs}
use Rattle.std.specs.Map.{lookup}
use Rattle.std.specs.Vec.{vec_capacity}
use Rattle.std.specs.declared.cmp.Ordering.{Ordering}
use Rattle.std.specs.declared.cmp.Ordering.TheVariants.{Less}
use Rattle.constraint_sys.specs.Table.{unknown_cmp, unknown_eq}
use Rattle.constraint_sys.specs.declared.unknown.Unknown.{Unknown}
use Rattle.dep_index.specs.Noted.{Notes}

-- each element is less than all that follow it
abbrev pub IsAscending : {X : Type 0} → (X → X → Ordering) → List X → Type 0
IsAscending {X} cmp xs = AllPairs (λ x y. cmp x y ≡ Less) xs

abbrev pub Rows : Type 0
Rows = List (Unknown × Vec Unknown)

abbrev pub row_at : Rows → Unknown → Option (Vec Unknown)
row_at rows u = lookup (unknown_eq u) rows

abbrev pub items_of : Option (Vec Unknown) → List Unknown
items_of None = []
items_of (Some row) = row.items

abbrev pub set_at : Rows → Unknown → List Unknown
set_at rows u = items_of (row_at rows u)

abbrev pub IsRoomy : Option (Vec Unknown) → Type 0
IsRoomy None = ⊥
IsRoomy (Some row) = vec_len row < vec_capacity row

abbrev pub HasRoom : Rows → Unknown → Type 0
HasRoom rows u = IsRoomy (row_at rows u)

-- the rows as plain lists
abbrev pub notes_of : Rows → Notes
notes_of rows = map (λ (e : Unknown × Vec Unknown). (e.0, e.1.items)) rows

-- q is in the row of u there exactly where u is in the row of q here
pub record IsInverse (reads : Rows) (readers : Rows) : Type 0 where
  pub members : (u q : Unknown) → Contains (set_at readers u) q ↔ Contains (set_at reads q) u
  pub ascending : (u : Unknown) → IsAscending unknown_cmp (set_at readers u)
