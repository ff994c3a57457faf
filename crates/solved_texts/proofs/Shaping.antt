-- A table with one entry more.
use Rattle.std.proofs.Common.{[], ◌∷◌, ◌++◌, inl, inr}
use Rattle.gob_tree.specs.declared.graph.Program.{Program}
use Rattle.constraint_sys.specs.Sound.{IsShaped, IsShapedEntry}
use Rattle.constraint_sys.specs.Table.{TableValue}
use Rattle.constraint_sys.specs.declared.unknown.Unknown.{Unknown}
use Rattle.constraint_sys.specs.declared.value.Value.{Value}
use Rattle.constraint_sys.proofs.Entries.{value_at-all, value_at-either}

pub shaped_push : (p : Program) (t : TableValue) (u : Unknown) (v : Value) → IsShaped p t → IsShapedEntry p u v → IsShaped p (t ++ (u, v) ∷ [])
shaped_push p t u v shaped fits w x at = elim (value_at-either w t ((u, v) ∷ []) x at) [
  | inl old ↦ shaped w x old
  | inr last ↦ value_at-all (IsShapedEntry p) ((u, v) ∷ []) (fits, tt) w x last.1
]
