-- What an edit keeps of a solved table: which functions, globals and mutexes of the old program are
-- those of the new one, which unknowns the edit may have touched, and the table that is carried over.
--
-- A reader should check: the rules of what is removed, one case each; that what is kept keeps its
-- value and its place, under the new numbers alone; and which points are to be turned again.
use Rattle.std.specs.Prelude.{◌≡◌, ◌↔◌, ◌⊎◌, ℕ, zero, suc, List, [], ◌∷◌, ◌++◌, Some, filter, map, slice_get, Contains, IsSomeAnd}
use Rattle.std.specs.List.{flat_map}
use Rattle.std.specs.Map.{keys_of}
use Rattle.gob_tree.specs.Named.{SameFunction}
use Rattle.gob_tree.specs.declared.graph.Program.{Program}
use Rattle.gob_tree.specs.declared.unit.GlobalDecl.{GlobalDecl}
use Rattle.interval_dom.specs.Bounds.{Bounds}
use Rattle.lockset_dom.specs.Members.{Holds}
use Rattle.state_dom.specs.StateValue.{StateValue, Bottom, Reached, locks_of}
use Rattle.constraint_sys.specs.declared.unknown.ArgKey.{ArgKey}
use Rattle.constraint_sys.specs.declared.unknown.Key.{Key}
use Rattle.constraint_sys.specs.declared.unknown.Unknown.{Unknown}
use Rattle.constraint_sys.specs.declared.unknown.Unknown.TheVariants.{Point, Global}
use Rattle.constraint_sys.specs.declared.value.Effect.{Effect}
use Rattle.constraint_sys.specs.declared.value.Value.{Value}
use Rattle.constraint_sys.specs.declared.value.Value.TheVariants.{State, Number}
use Rattle.constraint_sys.specs.Breach.{effects_by}
use Rattle.constraint_sys.specs.Contribution.{Reads}
use Rattle.constraint_sys.specs.PostSolution.{main_start_value}
use Rattle.constraint_sys.specs.Table.{TableValue, value_at, IsThere, main_start}
use Rattle.constraint_sys.specs.Turn.{Solving, IsAscending, fellows, initial_globals, is_absent}

-- ---- what is the same in both programs

-- global g of the old program is global h of the new one: name, width and initial value agree
abbrev pub SameGlobal : Program → ℕ → Program → ℕ → Type 0
SameGlobal old g new h = IsSomeAnd (slice_get old.globals g) (λ (decl : GlobalDecl). slice_get new.globals h ≡ Some decl)

-- mutex m of the old program is mutex n of the new one: the names agree
abbrev pub SameMutex : Program → ℕ → Program → ℕ → Type 0
SameMutex old m new n = IsSomeAnd (slice_get old.mutexes m) (λ (name : List ℕ). slice_get new.mutexes n ≡ Some name)

-- the new program lacks the function, or has another under its name
abbrev pub IsLostFunction : Program → Program → ℕ → Type 0
IsLostFunction old new f = (g : ℕ) → SameFunction old f new g → ⊥

abbrev pub IsLostGlobal : Program → Program → ℕ → Type 0
IsLostGlobal old new g = (h : ℕ) → SameGlobal old g new h → ⊥

abbrev pub IsLostMutex : Program → Program → ℕ → Type 0
IsLostMutex old new m = (n : ℕ) → SameMutex old m new n → ⊥

-- a set of the old program's mutexes holds one that is lost
abbrev pub HoldsLostMutex : Program → Program → ℕ → Type 0
HoldsLostMutex old new locks = (m : ℕ) × Holds locks m × IsLostMutex old new m

-- ---- how the unknowns of a table hang together

abbrev pub targets_of : Program → TableValue → Unknown → List Unknown
targets_of p t u = map (λ (e : Effect). e.target) (effects_by p t u)

-- the right side of u, which is in the table, contributes to v
abbrev pub Affects : Program → TableValue → Unknown → Unknown → Type 0
Affects p t u v = IsThere t u × Contains (targets_of p t u) v

-- Reached from `main`'s start: a start reaches its nodes, and a point the starts that it affects.
pub data IsReachedFromMain (p : Program) (t : TableValue) : Unknown → Type 0 where
  main_itself : IsReachedFromMain p t (main_start p)
  node_of_start : {f : ℕ} {key : Key} {node : ℕ} → IsReachedFromMain p t (Point f key 0) → IsThere t (Point f key node) → IsReachedFromMain p t (Point f key node)
  started : {u : Unknown} {f : ℕ} {key : Key} → IsReachedFromMain p t u → Affects p t u (Point f key 0) → IsReachedFromMain p t (Point f key 0)

-- ---- what the edit may have touched

-- The unknowns of the old program's table that aren't kept: the least set with these rules.
pub data IsRemoved (old new : Program) (t : TableValue) : Unknown → Type 0 where
  lost_function : {f : ℕ} {key : Key} {node : ℕ} → IsThere t (Point f key node) → IsLostFunction old new f → IsRemoved old new t (Point f key node)
  lost_global : {g : ℕ} → IsThere t (Global g) → IsLostGlobal old new g → IsRemoved old new t (Global g)
  lost_mutex_in_context : {f : ℕ} {key : Key} {node : ℕ} → IsThere t (Point f key node) → HoldsLostMutex old new key.locks → IsRemoved old new t (Point f key node)
  lost_mutex_in_state : {f : ℕ} {key : Key} {node : ℕ} {s : StateValue} → value_at t (Point f key node) ≡ Some (State s) → HoldsLostMutex old new (locks_of s) → IsRemoved old new t (Point f key node)
  unreached_start : {f : ℕ} {key : Key} → IsThere t (Point f key 0) → (IsReachedFromMain old t (Point f key 0) → ⊥) → IsRemoved old new t (Point f key 0)
  reader : {u q : Unknown} → IsRemoved old new t u → Reads old t q u → IsRemoved old new t q
  affected : {u v : Unknown} → IsRemoved old new t u → Affects old t u v → IsThere t v → IsRemoved old new t v
  node_of_removed : {f : ℕ} {key : Key} {node : ℕ} → IsRemoved old new t (Point f key 0) → IsThere t (Point f key node) → IsRemoved old new t (Point f key node)

-- ---- what is kept, under the numbers of the new program

-- the same mutexes: n is in the new set exactly where the old one has the mutex that n is
abbrev pub RenamesLocks : Program → Program → ℕ → ℕ → Type 0
RenamesLocks old new a b = (n : ℕ) → Holds b n ↔ ((m : ℕ) × Holds a m × SameMutex old m new n)

-- the first unknown, of the old program, is the second one, of the new program
pub data Renames (old new : Program) : Unknown → Unknown → Type 0 where
  point : {f g : ℕ} {a b : ArgKey} {locks others : ℕ} {node : ℕ} → SameFunction old f new g → RenamesLocks old new locks others → Renames old new (Point f (record { a = a; b = b; locks = locks }) node) (Point g (record { a = a; b = b; locks = others }) node)
  global : {g h : ℕ} → SameGlobal old g new h → Renames old new (Global g) (Global h)

pub data RenamesValue (old new : Program) : Value → Value → Type 0 where
  bottom : {room : ℕ} → RenamesValue old new (State (Bottom room)) (State (Bottom room))
  reached : {slots : List Bounds} {locks others : ℕ} → RenamesLocks old new locks others → RenamesValue old new (State (Reached slots locks)) (State (Reached slots others))
  number : {x : Bounds} → RenamesValue old new (Number x) (Number x)

-- the entries that aren't removed, in their order
pub data KeepsEntries (old new : Program) (t : TableValue) : TableValue → TableValue → Type 0 where
  no_entries : KeepsEntries old new t [] []
  removed_entry : {u : Unknown} {v : Value} {entries kept : TableValue} → IsRemoved old new t u → KeepsEntries old new t entries kept → KeepsEntries old new t ((u, v) ∷ entries) kept
  kept_entry : {u w : Unknown} {v x : Value} {entries kept : TableValue} → (IsRemoved old new t u → ⊥) → Renames old new u w → RenamesValue old new v x → KeepsEntries old new t entries kept → KeepsEntries old new t ((u, v) ∷ entries) ((w, x) ∷ kept)

-- ---- the table that is carried over

-- `main`'s start and the globals, with what they begin with
abbrev pub roots_of : Program → TableValue
roots_of p = (main_start p, main_start_value p) ∷ initial_globals 0 p.globals

-- those of them that the table lacks come behind it
abbrev pub with_roots : Program → TableValue → TableValue
with_roots p t = t ++ filter (is_absent t) (roots_of p)

-- the nodes, as Bottom, that the starts in a table lack there
abbrev pub lacking : Program → TableValue → TableValue
lacking p t = flat_map (λ (e : Unknown × Value). filter (is_absent t) (fellows p e.0)) t

-- q is a kept point whose right side contributed to an unknown that is removed
abbrev pub LostTarget : Program → Program → TableValue → Unknown → Type 0
LostTarget old new t q = (u v : Unknown) × Renames old new u q × (IsRemoved old new t u → ⊥) × Affects old t u v × IsRemoved old new t v

-- What a solved table of the old program leaves for the new one: the kept entries, then the roots
-- that are absent, then the nodes that a start lacks. Dirty are those nodes, and each kept point that
-- contributed to what is removed.
pub record Carries (old new : Program) (t : TableValue) (s : Solving) : Type 0 where
  pub kept : TableValue
  pub entries : KeepsEntries old new t t kept
  pub table : s.table ≡ with_roots new kept ++ lacking new (with_roots new kept)
  pub dirty : (q : Unknown) → Contains s.dirty q ↔ (Contains (keys_of (lacking new (with_roots new kept))) q ⊎ LostTarget old new t q)
  pub ascending : IsAscending s.dirty
