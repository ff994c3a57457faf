-- The first place at which a table isn't a post-solution.
use Rattle.std.specs.Prelude.{◌≡◌, ◌⊎◌, ℕ, zero, suc, ◌<◌, List, [], ◌∷◌, true, Some, length, slice_get}
use Rattle.std.specs.Ordering.{is_lt}
use Rattle.gob_tree.specs.declared.graph.Program.{Program}
use Rattle.gob_tree.specs.declared.unit.GlobalDecl.{GlobalDecl}
use Rattle.constraint_sys.specs.declared.unknown.Unknown.{Unknown}
use Rattle.constraint_sys.specs.declared.unknown.Unknown.TheVariants.{Point, Global}
use Rattle.constraint_sys.specs.declared.value.Effect.{Effect}
use Rattle.constraint_sys.specs.declared.value.Value.TheVariants.{State}
use Rattle.constraint_sys.specs.Contribution.{contribution_of}
use Rattle.constraint_sys.specs.PostSolution.{BoundsAt, initial_value, main_start_value}
use Rattle.constraint_sys.specs.Table.{TableValue, IsThere, main_start, nodes_at, unknown_cmp}

abbrev pub IsBefore : Unknown → Unknown → Type 0
IsBefore a b = is_lt (unknown_cmp a b) ≡ true

-- `main`'s start, or a global
abbrev pub IsRoot : Program → Unknown → Type 0
IsRoot p u = (u ≡ main_start p) ⊎ ((g : ℕ) × (g < length p.globals) × (u ≡ Global g))

abbrev pub IsMissingRoot : Program → TableValue → Unknown → Type 0
IsMissingRoot p t u = IsRoot p u × (IsThere t u → ⊥)

-- a node of the point's function that the table lacks in its context
abbrev pub MissesNode : Program → TableValue → Unknown → ℕ → Type 0
MissesNode p t (Point f key node) other = (other < length (nodes_at p f)) × (IsThere t (Point f key other) → ⊥)
MissesNode p t (Global g) other = ⊥

-- v is the point of the same function and context at another node
abbrev pub IsFellow : Unknown → ℕ → Unknown → Type 0
IsFellow (Point f key node) other v = v ≡ Point f key other
IsFellow (Global g) other v = ⊥

-- the unknown bounds what it begins with, and what its edges contribute to it
abbrev pub BoundsItself : Program → TableValue → Unknown → Type 0
BoundsItself p t (Point f key zero) = (Point f key 0 ≡ main_start p) → BoundsAt t (Point f key 0) (main_start_value p)
BoundsItself p t (Point f key (suc node)) = BoundsAt t (Point f key (suc node)) (State (contribution_of p t f key (suc node)).value)
BoundsItself p t (Global g) = (decl : GlobalDecl) → slice_get p.globals g ≡ Some decl → BoundsAt t (Global g) (initial_value decl)

-- the effects of the unknown's right side
abbrev pub effects_by : Program → TableValue → Unknown → List Effect
effects_by p t (Point f key zero) = []
effects_by p t (Point f key (suc node)) = (contribution_of p t f key (suc node)).effects
effects_by p t (Global g) = []

-- the target of the first effect that the table doesn't bound
abbrev pub IsFirstUnbounded : TableValue → List Effect → Unknown → Type 0
IsFirstUnbounded t [] v = ⊥
IsFirstUnbounded t (e ∷ es) v =
    ((BoundsAt t e.target e.value → ⊥) × (v ≡ e.target)) ⊎ (BoundsAt t e.target e.value × IsFirstUnbounded t es v)

-- The target of the unknown's breach: its least missing node, as one of its function and context;
-- else itself; else the first effect's target.
abbrev pub BreaksAt : Program → TableValue → Unknown → Unknown → Type 0
BreaksAt p t u v =
    ((node : ℕ) × MissesNode p t u node × ((other : ℕ) → other < node → MissesNode p t u other → ⊥) × IsFellow u node v)
    ⊎ (((node : ℕ) → MissesNode p t u node → ⊥)
    × (((BoundsItself p t u → ⊥) × (v ≡ u)) ⊎ (BoundsItself p t u × IsFirstUnbounded t (effects_by p t u) v)))

-- A missing root comes first, as its own target; then the first unknown of the table, in the order of
-- unknowns, that has a breach.
abbrev pub IsFirstBreach : Program → TableValue → Unknown → Unknown → Type 0
IsFirstBreach p t u v =
    (IsMissingRoot p t u × (v ≡ u) × ((r : Unknown) → IsBefore r u → IsMissingRoot p t r → ⊥))
    ⊎ (((r : Unknown) → IsMissingRoot p t r → ⊥)
    × (IsThere t u × BreaksAt p t u v × ((w x : Unknown) → IsThere t w → IsBefore w u → BreaksAt p t w x → ⊥)))
