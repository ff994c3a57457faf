-- What every stage of a solution keeps.
use Rattle.std.specs.Prelude.{◌≡◌, ◌≢◌, ◌↔◌, ◌⊎◌, ℕ, zero, suc, ◌<◌, ◌≤◌, Some, length, slice_get, Contains, IsSomeAnd}
use Rattle.gob_tree.specs.Formed.{IsThreadFunction}
use Rattle.gob_tree.specs.declared.graph.Program.{Program}
use Rattle.gob_tree.specs.declared.unit.GlobalDecl.{GlobalDecl}
use Rattle.interval_dom.specs.Bounds.{Covers}
use Rattle.interval_dom.specs.Ranges.{full}
use Rattle.lockset_dom.specs.Members.{Holds}
use Rattle.state_dom.specs.Operators.{interval_width_of}
use Rattle.state_dom.specs.StateValue.{StateValue, HasShape, locks_of}
use Rattle.constraint_sys.specs.declared.unknown.ArgKey.TheVariants.{Absent}
use Rattle.constraint_sys.specs.declared.unknown.Key.{Key}
use Rattle.constraint_sys.specs.declared.unknown.Unknown.{Unknown}
use Rattle.constraint_sys.specs.declared.unknown.Unknown.TheVariants.{Point, Global}
use Rattle.constraint_sys.specs.declared.value.Value.{Value}
use Rattle.constraint_sys.specs.declared.value.Value.TheVariants.{State, Number}
use Rattle.constraint_sys.specs.Table.{TableValue, value_at, IsThere, empty_key, nodes_at, params_at, slots_at}
use Rattle.constraint_sys.specs.PostSolution.{HasRoots, IsSatisfied}
use Rattle.constraint_sys.specs.Turn.{Solving}

-- each member is a mutex of the program
abbrev pub IsMutexSet : Program → ℕ → Type 0
IsMutexSet p set = (m : ℕ) → Holds set m → m < length p.mutexes

-- `main` and the functions that threads start in
abbrev pub IsStarted : Program → ℕ → Type 0
IsStarted p f = (f ≡ p.main) ⊎ IsSomeAnd (slice_get p.funcs f) IsThreadFunction

-- A context of function f: a part is Absent exactly where the function lacks that parameter, the
-- locks are mutexes of the program, and `main` and threads have the empty one alone.
pub record IsKeyOf (p : Program) (f : ℕ) (key : Key) : Type 0 where
  pub first : (key.a ≡ Absent) ↔ (params_at p f ≡ 0)
  pub second : (key.b ≡ Absent) ↔ (params_at p f ≤ 1)
  pub mutexes : IsMutexSet p key.locks
  pub started : IsStarted p f → key ≡ empty_key

-- a node of the program in one of its function's contexts, with a state of the function's shape
pub record IsShapedPoint (p : Program) (f : ℕ) (key : Key) (node : ℕ) (s : StateValue) : Type 0 where
  pub within : node < length (nodes_at p f)
  pub context : IsKeyOf p f key
  pub shape : HasShape (slots_at p f) s
  pub mutexes : IsMutexSet p (locks_of s)

-- a point of the program has a state of its function's shape, and a global an interval in its width
abbrev pub IsShapedEntry : Program → Unknown → Value → Type 0
IsShapedEntry p (Point f key node) (State s) = IsShapedPoint p f key node s
IsShapedEntry p (Point f key node) (Number interval) = ⊥
IsShapedEntry p (Global g) (State s) = ⊥
IsShapedEntry p (Global g) (Number interval) =
    IsSomeAnd (slice_get p.globals g) (λ (decl : GlobalDecl). Covers (full (interval_width_of decl.width)) interval)

abbrev pub IsShaped : Program → TableValue → Type 0
IsShaped p t = (u : Unknown) (v : Value) → value_at t u ≡ Some v → IsShapedEntry p u v

-- a point of the table with a node other than 0
abbrev pub CanTurn : TableValue → Unknown → Type 0
CanTurn t (Point f key zero) = ⊥
CanTurn t (Point f key (suc node)) = IsThere t (Point f key (suc node))
CanTurn t (Global g) = ⊥

-- The table has its shape, and dirty are points of it: what a turn asks for.
pub record IsTurnable (p : Program) (s : Solving) : Type 0 where
  pub shaped : IsShaped p s.table
  pub dirty_points : (u : Unknown) → Contains s.dirty u → CanTurn s.table u

-- The table has its roots and shape, dirty are points of it, and each point of a node other than 0
-- that isn't dirty is satisfied.
pub record IsSound (p : Program) (s : Solving) : Type 0 where
  pub roots : HasRoots p s.table
  pub shaped : IsShaped p s.table
  pub dirty_points : (u : Unknown) → Contains s.dirty u → CanTurn s.table u
  pub satisfied : (f : ℕ) (key : Key) (node : ℕ) → IsThere s.table (Point f key node) → node ≢ 0 → (Contains s.dirty (Point f key node) → ⊥) → IsSatisfied p s.table f key node
