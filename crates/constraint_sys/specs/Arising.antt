-- What a turn makes ready before it raises anything: the entries that arise.
use Rattle.std.specs.Prelude.{◌≡◌, ◌≤◌, ◌⊎◌, ℕ, zero, suc, List, [], ◌∷◌, ◌++◌, Option, None, Some, IsSomeAnd, slice_get}
use Rattle.std.specs.Map.{keys_of}
use Rattle.gob_tree.specs.declared.graph.Program.{Program}
use Rattle.state_dom.specs.StateValue.{room_of}
use Rattle.constraint_sys.specs.declared.unknown.Unknown.{Unknown}
use Rattle.constraint_sys.specs.declared.unknown.Unknown.TheVariants.{Point, Global}
use Rattle.constraint_sys.specs.declared.value.Effect.{Effect}
use Rattle.constraint_sys.specs.declared.value.Value.{Value}
use Rattle.constraint_sys.specs.declared.value.Value.TheVariants.{State, Number}
use Rattle.constraint_sys.specs.Sound.{IsShapedEntry}
use Rattle.constraint_sys.specs.Table.{TableValue, IsThere, shown, value_at}
use Rattle.constraint_sys.specs.Turn.{arising}

abbrev pub arisen_entry : Program → TableValue → Effect → Option Value → TableValue
arisen_entry p t e None = t ++ arising p t e.target e.value
arisen_entry p t e (Some old) = t

-- the table with the target of an effect, where it wasn't there
abbrev pub arisen_in : Program → TableValue → Effect → TableValue
arisen_in p t e = arisen_entry p t e (value_at t e.target)

abbrev pub arisen_in_each : Program → TableValue → List Effect → TableValue
arisen_in_each p t [] = t
arisen_in_each p t (e ∷ es) = arisen_in_each p (arisen_in p t e) es

-- a start or a global, which may arise
abbrev pub MayArise : Unknown → Type 0
MayArise (Point f key zero) = Unit {0}
MayArise (Point f key (suc node)) = ⊥
MayArise (Global g) = Unit {0}

-- a turn may raise this: a value of the target's shape, and the target is there, or may arise by a
-- value that readers see
pub record CanRaise (p : Program) (t : TableValue) (e : Effect) : Type 0 where
  pub fits : IsShapedEntry p e.target e.value
  pub target : IsThere t e.target ⊎ (MayArise e.target × (shown (Some e.value) ≡ Some e.value))

-- two values of one kind and room
abbrev pub AreAlike : Value → Value → Type 0
AreAlike (State a) (State b) = room_of a ≡ room_of b
AreAlike (State a) (Number b) = ⊥
AreAlike (Number a) (State b) = ⊥
AreAlike (Number a) (Number b) = Unit {0}

-- the target is there, and its value is like the one that raises it
abbrev pub IsLike : TableValue → Effect → Type 0
IsLike t e = IsSomeAnd (value_at t e.target) (λ (old : Value). AreAlike old e.value)

-- a point of a node other than 0
abbrev pub IsInner : Unknown → Type 0
IsInner (Point f key zero) = ⊥
IsInner (Point f key (suc node)) = Unit {0}
IsInner (Global g) = ⊥

-- the unknown stands at a place of the table from n on
abbrev pub IsNewAt : ℕ → TableValue → Unknown → Type 0
IsNewAt n t u = (k : ℕ) × (n ≤ k) × (slice_get (keys_of t) k ≡ Some u)
