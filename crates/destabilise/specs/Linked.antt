-- How the unknowns of a table hang together: who reads each of them, what it contributes to, and the
-- nodes of a start.
use Rattle.std.specs.Prelude.{◌≡◌, ◌↔◌, ◌⊎◌, ℕ, zero, suc, ◌<◌, List, [], Option, None, Some, Contains, length}
use Rattle.std.specs.Map.{lookup}
use Rattle.indexmap.specs.IndexMap.{insert_entry}
use Rattle.gob_tree.specs.declared.graph.Program.{Program}
use Rattle.constraint_sys.specs.Carry.{Affects}
use Rattle.constraint_sys.specs.Contribution.{Reads}
use Rattle.constraint_sys.specs.Table.{TableValue, IsThere, nodes_at, unknown_eq}
use Rattle.constraint_sys.specs.declared.unknown.Key.{Key}
use Rattle.constraint_sys.specs.declared.unknown.Unknown.{Unknown}
use Rattle.constraint_sys.specs.declared.unknown.Unknown.TheVariants.{Point, Global}
use Rattle.dep_index.specs.Noted.{reads_of}
use Rattle.destabilise.specs.declared.links.Links.{Links}

-- a function's start in a context
abbrev pub IsStart : Unknown → Type 0
IsStart (Point f key zero) = Unit {0}
IsStart (Point f key (suc node)) = ⊥
IsStart (Global g) = ⊥

-- a point of another node
abbrev pub IsInner : Unknown → Type 0
IsInner (Point f key zero) = ⊥
IsInner (Point f key (suc node)) = Unit {0}
IsInner (Global g) = ⊥

-- v has the number of a node in the function and the context of the start u
abbrev pub IsNumberedNode : Program → Unknown → Unknown → Type 0
IsNumberedNode p (Point f key zero) v = (node : ℕ) × (node < length (nodes_at p f)) × (v ≡ Point f key node)
IsNumberedNode p (Point f key (suc node)) v = ⊥
IsNumberedNode p (Global g) v = ⊥

-- the function of a point is one of the program's
abbrev pub IsOfProgram : Program → Unknown → Type 0
IsOfProgram p (Point f key node) = f < length p.funcs
IsOfProgram p (Global g) = Unit {0}

-- what each unknown contributes to, as it was noted
abbrev pub Targets : Type 0
Targets = List (Unknown × List Unknown)

abbrev pub list_or_none : Option (List Unknown) → List Unknown
list_or_none None = []
list_or_none (Some us) = us

abbrev pub targets_at : Targets → Unknown → List Unknown
targets_at targets u = list_or_none (lookup (unknown_eq u) targets)

abbrev pub with_targets : Targets → Unknown → List Unknown → Targets
with_targets targets u us = insert_entry unknown_eq targets u us

-- the links are those of the table's unknowns
pub record AreLinksOf (p : Program) (t : TableValue) (l : Links) : Type 0 where
  pub readers : (u q : Unknown) → Contains (reads_of l.readers q) u ↔ Reads p t q u
  pub targets : (u v : Unknown) → Contains (targets_at l.targets.entries u) v ↔ Affects p t u v

-- one of some unknowns, and in the table
abbrev pub IsOneOf : TableValue → List Unknown → Unknown → Type 0
IsOneOf t us u = Contains us u × IsThere t u

-- what is removed with u, where it is in the table: its readers, what it contributes to, its nodes
abbrev pub TakesAlong : Program → TableValue → Unknown → Unknown → Type 0
TakesAlong p t u v = (Reads p t v u ⊎ (Affects p t u v ⊎ IsNumberedNode p u v)) × IsThere t v

-- what is reached with u: the starts that it contributes to, and its nodes
abbrev pub Reaches : Program → TableValue → Unknown → Unknown → Type 0
Reaches p t u v = ((Affects p t u v × IsStart v) ⊎ IsNumberedNode p u v) × IsThere t v
