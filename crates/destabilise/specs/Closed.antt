-- Sets that the rules of what an edit removes don't lead out of.
use Rattle.std.specs.Prelude.{◌≡◌, ◌⊎◌, ℕ, Bool, Some, IsTrue}
use Rattle.gob_tree.specs.declared.graph.Program.{Program}
use Rattle.state_dom.specs.StateValue.{StateValue, locks_of}
use Rattle.constraint_sys.specs.Carry.{Affects, HoldsLostMutex, IsLostFunction, IsLostGlobal, IsReachedFromMain}
use Rattle.constraint_sys.specs.Contribution.{Reads}
use Rattle.constraint_sys.specs.Table.{TableValue, value_at, IsThere}
use Rattle.constraint_sys.specs.declared.unknown.Key.{Key}
use Rattle.constraint_sys.specs.declared.unknown.Unknown.{Unknown}
use Rattle.constraint_sys.specs.declared.unknown.Unknown.TheVariants.{Point, Global}
use Rattle.constraint_sys.specs.declared.value.Value.TheVariants.{State}

-- a set of unknowns, given by a test, that has what each rule gives
pub record IsClosed (old new : Program) (t : TableValue) (holds : Unknown → Bool) : Type 0 where
  pub lost_functions : (f : ℕ) (key : Key) (node : ℕ) → IsThere t (Point f key node) → IsLostFunction old new f → IsTrue (holds (Point f key node))
  pub lost_globals : (g : ℕ) → IsThere t (Global g) → IsLostGlobal old new g → IsTrue (holds (Global g))
  pub lost_mutexes_in_contexts : (f : ℕ) (key : Key) (node : ℕ) → IsThere t (Point f key node) → HoldsLostMutex old new key.locks → IsTrue (holds (Point f key node))
  pub lost_mutexes_in_states : (f : ℕ) (key : Key) (node : ℕ) (s : StateValue) → value_at t (Point f key node) ≡ Some (State s) → HoldsLostMutex old new (locks_of s) → IsTrue (holds (Point f key node))
  pub unreached_starts : (f : ℕ) (key : Key) → IsThere t (Point f key 0) → (IsReachedFromMain old t (Point f key 0) → ⊥) → IsTrue (holds (Point f key 0))
  pub readers : (u q : Unknown) → IsTrue (holds u) → Reads old t q u → IsTrue (holds q)
  pub affected : (u v : Unknown) → IsTrue (holds u) → Affects old t u v → IsThere t v → IsTrue (holds v)
  pub nodes : (f : ℕ) (key : Key) (node : ℕ) → IsTrue (holds (Point f key 0)) → IsThere t (Point f key node) → IsTrue (holds (Point f key node))
