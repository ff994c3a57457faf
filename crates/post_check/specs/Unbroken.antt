-- What is found of an unknown, one part of a breach after another.
use Rattle.std.specs.Prelude.{◌≡◌, ◌⊎◌, ℕ, ◌<◌, All}
use Rattle.gob_tree.specs.declared.graph.Program.{Program}
use Rattle.constraint_sys.specs.declared.unknown.Key.{Key}
use Rattle.constraint_sys.specs.declared.unknown.Unknown.{Unknown}
use Rattle.constraint_sys.specs.declared.unknown.Unknown.TheVariants.{Point, Global}
use Rattle.constraint_sys.specs.declared.value.Effect.{Effect}
use Rattle.constraint_sys.specs.Breach.{BoundsItself, BreaksAt, IsBefore, IsFellow, IsFirstUnbounded, MissesNode, effects_by}
use Rattle.constraint_sys.specs.PostSolution.{BoundsAt}
use Rattle.constraint_sys.specs.Table.{TableValue, IsThere}

-- ---- globals and nodes that are missing
-- of the first so many globals the table has those before this one, and not this one
pub record IsFirstGlobal (t : TableValue) (count : ℕ) (v : Unknown) : Type 0 where
  pub number : ℕ
  pub within : number < count
  pub is : v ≡ Global number
  pub missing : IsThere t v → ⊥
  pub before : (h : ℕ) → h < number → IsThere t (Global h)

-- the table has the function's first nodes, so many, in a context
abbrev pub HasFirstNodes : TableValue → ℕ → Key → ℕ → Type 0
HasFirstNodes t f key nodes = (node : ℕ) → node < nodes → IsThere t (Point f key node)

-- of these it has those before this one, and not this one
pub record IsLeastNode (t : TableValue) (f : ℕ) (key : Key) (nodes : ℕ) (v : Unknown) : Type 0 where
  pub node : ℕ
  pub within : node < nodes
  pub is : v ≡ Point f key node
  pub missing : IsThere t v → ⊥
  pub before : HasFirstNodes t f key node

-- the table has all nodes of the unknown's function in its context
abbrev pub HasItsNodes : Program → TableValue → Unknown → Type 0
HasItsNodes p t u = (node : ℕ) → MissesNode p t u node → ⊥

abbrev pub IsLeastMissing : Program → TableValue → Unknown → Unknown → Type 0
IsLeastMissing p t u v = (node : ℕ) × MissesNode p t u node × ((other : ℕ) → other < node → MissesNode p t u other → ⊥) × IsFellow u node v

-- two points of one function and context
abbrev pub IsOfOne : Unknown → Unknown → Type 0
IsOfOne (Point f key node) (Point g other m) = (f ≡ g) × (key ≡ other)
IsOfOne (Point f key node) (Global g) = ⊥
IsOfOne (Global g) u = ⊥

-- ---- values and effects that aren't bounded
abbrev pub AreBounded : TableValue → Effect → Type 0
AreBounded t e = BoundsAt t e.target e.value

abbrev pub BoundsAll : Program → TableValue → Unknown → Type 0
BoundsAll p t u = BoundsItself p t u × All (AreBounded t) (effects_by p t u)

abbrev pub IsFirstUnboundedOf : Program → TableValue → Unknown → Unknown → Type 0
IsFirstUnboundedOf p t u v = ((BoundsItself p t u → ⊥) × (v ≡ u)) ⊎ (BoundsItself p t u × IsFirstUnbounded t (effects_by p t u) v)

-- ---- all of it
-- the unknown has no breach
pub record IsUnbroken (p : Program) (t : TableValue) (u : Unknown) : Type 0 where
  pub nodes : HasItsNodes p t u
  pub bounds : BoundsAll p t u

-- no unknown of the table has one
abbrev pub IsWhole : Program → TableValue → Type 0
IsWhole p t = (u : Unknown) → IsThere t u → IsUnbroken p t u

-- the first unknown of the table that has one, with its target
abbrev pub IsFirstOfTable : Program → TableValue → Unknown → Unknown → Type 0
IsFirstOfTable p t u v = IsThere t u × BreaksAt p t u v × ((w x : Unknown) → IsThere t w → IsBefore w u → BreaksAt p t w x → ⊥)
