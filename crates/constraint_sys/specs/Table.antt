-- Tables: the values of unknowns, as the list of their entries in the order in which they arose.
use Rattle.std.specs.Prelude.{ℕ, Bool, List, [], Option, None, Some, IsSome, length, slice_get}
use Rattle.std.specs.declared.cmp.Ordering.{Ordering}
use Rattle.std.specs.Map.{lookup}
use Rattle.indexmap.specs.IndexMap.{insert_entry}
use Rattle.gob_tree.specs.declared.graph.Edge.{Edge}
use Rattle.gob_tree.specs.declared.graph.FuncGraph.{FuncGraph}
use Rattle.gob_tree.specs.declared.graph.Program.{Program}
use Rattle.gob_tree.specs.declared.place.Place.{Place}
use Rattle.gob_tree.specs.declared.unit.Slot.{Slot}
use Rattle.lockset_dom.specs.Members.{no_locks}
use Rattle.state_dom.specs.StateValue.{StateValue, Bottom, Reached}
use Rattle.constraint_sys.specs.declared.unknown.ArgKey.TheVariants.{Absent}
use Rattle.constraint_sys.specs.declared.unknown.Key.{Key}
use Rattle.constraint_sys.specs.declared.unknown.Unknown.{Unknown}
use Rattle.constraint_sys.specs.declared.unknown.Unknown.TheVariants.{Point}
use Rattle.constraint_sys.specs.declared.value.Value.{Value}
use Rattle.constraint_sys.specs.declared.value.Value.TheVariants.{State, Number}
use Rattle.constraint_sys.specs.contracts.unknown.UnknownOrd.TheImpl.{ghosts as orders}
use Rattle.constraint_sys.specs.contracts.unknown.UnknownPartialEq.TheImpl.{ghosts}

abbrev pub TableValue : Type 0
TableValue = List (Unknown × Value)

abbrev pub unknown_eq : Unknown → Unknown → Bool
unknown_eq = ghosts.eq

-- the order of unknowns: points before globals, by function, key and node
abbrev pub unknown_cmp : Unknown → Unknown → Ordering
unknown_cmp = orders.cmp

-- the context of `main` and of a thread: no argument is known and no mutex held
abbrev pub empty_key : Key
empty_key = record { a = Absent; b = Absent; locks = no_locks }

abbrev pub main_start : Program → Unknown
main_start p = Point p.main empty_key 0

abbrev pub value_at : TableValue → Unknown → Option Value
value_at t u = lookup (unknown_eq u) t

-- the table with the value at the unknown, in its place or at the end
abbrev pub with_value : TableValue → Unknown → Value → TableValue
with_value t u v = insert_entry unknown_eq t u v

abbrev pub IsThere : TableValue → Unknown → Type 0
IsThere t u = IsSome (value_at t u)

-- what a reader sees of an entry: an unknown that isn't there, or is Bottom, has nothing to show
abbrev pub shown : Option Value → Option Value
shown None = None
shown (Some (State (Bottom room))) = None
shown (Some (State (Reached slots locks))) = Some (State (Reached slots locks))
shown (Some (Number interval)) = Some (Number interval)

abbrev pub shown_state : ℕ → Option Value → StateValue
shown_state room None = Bottom room
shown_state room (Some (State s)) = s
shown_state room (Some (Number interval)) = Bottom room

abbrev pub slots_of_function : Option FuncGraph → List Slot
slots_of_function None = []
slots_of_function (Some f) = f.slots

abbrev pub edges_of_function : Option FuncGraph → List Edge
edges_of_function None = []
edges_of_function (Some f) = f.edges

abbrev pub params_of_function : Option FuncGraph → ℕ
params_of_function None = 0
params_of_function (Some f) = f.params

abbrev pub nodes_of_function : Option FuncGraph → List Place
nodes_of_function None = []
nodes_of_function (Some f) = f.nodes

abbrev pub slots_at : Program → ℕ → List Slot
slots_at p f = slots_of_function (slice_get p.funcs f)

abbrev pub params_at : Program → ℕ → ℕ
params_at p f = params_of_function (slice_get p.funcs f)

abbrev pub edges_at : Program → ℕ → List Edge
edges_at p f = edges_of_function (slice_get p.funcs f)

abbrev pub nodes_at : Program → ℕ → List Place
nodes_at p f = nodes_of_function (slice_get p.funcs f)

-- the state at a point of a function; a point that isn't in the table is read as Bottom
abbrev pub state_at : Program → TableValue → ℕ → Key → ℕ → StateValue
state_at p t f key node = shown_state (length (slots_at p f)) (shown (value_at t (Point f key node)))
