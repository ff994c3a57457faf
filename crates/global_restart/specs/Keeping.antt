-- What the steps of carrying a table over do, one entry or one point at a time.
use Rattle.std.specs.Prelude.{◌≡◌, ◌⊎◌, ℕ, [], ◌∷◌, ◌++◌, List, Some, Contains}
use Rattle.gob_tree.specs.Named.{SameFunction}
use Rattle.gob_tree.specs.declared.graph.Program.{Program}
use Rattle.constraint_sys.specs.Carry.{Affects, IsRemoved, Renames, RenamesValue, SameGlobal}
use Rattle.constraint_sys.specs.Table.{TableValue, value_at}
use Rattle.constraint_sys.specs.declared.unknown.Unknown.{Unknown}
use Rattle.constraint_sys.specs.declared.unknown.Unknown.TheVariants.{Point, Global}
use Rattle.constraint_sys.specs.declared.value.Value.{Value}
use Rattle.destabilise.specs.Marked.{MarkList, IsMarked}

-- the new program has the unknown's function or global
abbrev pub HasNewNumber : Program → Program → Unknown → Type 0
HasNewNumber old new (Point f key node) = (g : ℕ) × SameFunction old f new g
HasNewNumber old new (Global g) = (h : ℕ) × SameGlobal old g new h

-- the marks are on what is removed
pub record MarksRemoved (old new : Program) (t : TableValue) (marks : MarkList) : Type 0 where
  pub marked : (u : Unknown) → IsMarked marks u → IsRemoved old new t u
  pub removed : (u : Unknown) → IsRemoved old new t u → IsMarked marks u

-- an entry of the old table is left out, or comes behind the others under its new name
pub data AddsEntry (old new : Program) (t : TableValue) (u : Unknown) (before : TableValue) : TableValue → Type 0 where
  left_out : IsRemoved old new t u → AddsEntry old new t u before before
  added : {w : Unknown} {v x : Value} → (IsRemoved old new t u → ⊥) → Renames old new u w → value_at t u ≡ Some v → RenamesValue old new v x → AddsEntry old new t u before (before ++ (w, x) ∷ [])

-- q is the new name of u, which is kept and contributed to something that is removed
abbrev pub LostAt : Program → Program → TableValue → Unknown → Unknown → Type 0
LostAt old new t u q = (v : Unknown) × Renames old new u q × (IsRemoved old new t u → ⊥) × Affects old t u v × IsRemoved old new t v

-- of one of some unknowns
abbrev pub LostAmong : Program → Program → TableValue → List Unknown → Unknown → Type 0
LostAmong old new t us q = (u : Unknown) × Contains us u × LostAt old new t u q
