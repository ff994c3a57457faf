-- The functions of a formed program, and where the points of a shaped table lie.
use Rattle.std.proofs.Common.{◌≡◌, ℕ, zero, suc, ◌<◌, List, length, Option, Some, None, refl, sym, ap, ◌∙◌, arith, subst, true, true≢false}
use Rattle.std.specs.Prelude.{slice_get, IsSome, IsSomeAnd}
use Rattle.std.proofs.lemmas.Option.{slice_get_within}
use Rattle.gob_tree.specs.declared.graph.FuncGraph.{FuncGraph}
use Rattle.gob_tree.specs.declared.graph.Program.{Program}
use Rattle.gob_tree.specs.declared.unit.Slot.{Slot}
use Rattle.state_dom.specs.StateValue.{StateValue, Bottom, Reached, room_of, slots_of, is_reached, FitsEach}
use Rattle.constraint_sys.specs.declared.unknown.Key.{Key}
use Rattle.constraint_sys.specs.declared.unknown.Unknown.TheVariants.{Point}
use Rattle.constraint_sys.specs.declared.value.Value.{Value}
use Rattle.constraint_sys.specs.declared.value.Value.TheVariants.{State, Number}
use Rattle.constraint_sys.specs.Sound.{CanTurn, IsShaped, IsShapedEntry}
use Rattle.constraint_sys.specs.Table.{TableValue, IsThere, value_at, nodes_of_function, slots_at, slots_of_function, edges_at, edges_of_function, params_of_function}
use Rattle.constraint_sys.proofs.Shaping.{room_of-shaped}

pub slots_at-function : (p : Program) (f : ℕ) (function : FuncGraph) → slice_get p.funcs f ≡ Some function → slots_at p f ≡ function.slots
slots_at-function p f function is = ap slots_of_function is

pub edges_at-function : (p : Program) (f : ℕ) (function : FuncGraph) → slice_get p.funcs f ≡ Some function → edges_at p f ≡ function.edges
edges_at-function p f function is = ap edges_of_function is

-- a function that has a node is there
pub function_with_node : (p : Program) (f node : ℕ) (o : Option FuncGraph) → slice_get p.funcs f ≡ o → node < length (nodes_of_function o) → f < length p.funcs
function_with_node p f node None is within = absurd (omega arith)
function_with_node p f node (Some function) is within = slice_get_within p.funcs f function is

-- a shaped value of a point is that of a point of the program
pub entry_within : (p : Program) (f : ℕ) (key : Key) (node : ℕ) (v : Value) → IsShapedEntry p (Point f key node) v → f < length p.funcs
entry_within p f key node (State s) fits = function_with_node p f node (slice_get p.funcs f) refl fits.within
entry_within p f key node (Number n) fits = absurd fits

within_by : (p : Program) (f : ℕ) (key : Key) (node : ℕ) (t : TableValue) (o : Option Value) → value_at t (Point f key node) ≡ o → IsShaped p t → IsSome o → f < length p.funcs
within_by p f key node t None at shaped there = absurd (true≢false (sym there))
within_by p f key node t (Some v) at shaped there = entry_within p f key node v (shaped (Point f key node) v at)

pub there_within : (p : Program) (t : TableValue) (f : ℕ) (key : Key) (node : ℕ) → IsShaped p t → IsThere t (Point f key node) → f < length p.funcs
there_within p t f key node shaped there = within_by p f key node t (value_at t (Point f key node)) refl shaped there

pub IsThere-turned : (t : TableValue) (f : ℕ) (key : Key) (node : ℕ) → CanTurn t (Point f key node) → IsThere t (Point f key node)
IsThere-turned t f key zero can = absurd can
IsThere-turned t f key (suc node) can = can

pub function_within : (p : Program) (t : TableValue) (f : ℕ) (key : Key) (node : ℕ) → IsShaped p t → CanTurn t (Point f key node) → f < length p.funcs
function_within p t f key node shaped can = there_within p t f key node shaped (IsThere-turned t f key node can)

-- the slots of a state that isn't Bottom
reached_fits : (p : Program) (f : ℕ) (key : Key) (node : ℕ) (s : StateValue) → IsShapedEntry p (Point f key node) (State s) → is_reached s ≡ true → FitsEach (slots_at p f) (slots_of s)
reached_fits p f key node (Bottom room) fits reached = absurd (true≢false (sym reached))
reached_fits p f key node (Reached xs locks) fits reached = fits.shape

pub entry_fits : (p : Program) (t : TableValue) (f : ℕ) (function : FuncGraph) (key : Key) (node : ℕ) (s : StateValue) → slice_get p.funcs f ≡ Some function → IsShaped p t → value_at t (Point f key node) ≡ Some (State s) → is_reached s ≡ true
    → FitsEach function.slots (slots_of s)
entry_fits p t f function key node s is shaped at reached =
    subst (λ (slots : List Slot). FitsEach slots (slots_of s)) (slots_at-function p f function is) (reached_fits p f key node s (shaped (Point f key node) (State s) at) reached)

pub reached_room : (s : StateValue) → is_reached s ≡ true → room_of s ≡ length (slots_of s)
reached_room (Bottom room) reached = absurd (true≢false (sym reached))
reached_room (Reached xs locks) reached = refl

-- a state of the table has room for the slots of its function
pub entry_room : (p : Program) (t : TableValue) (f : ℕ) (function : FuncGraph) (key : Key) (node : ℕ) (s : StateValue) → slice_get p.funcs f ≡ Some function → IsShaped p t → value_at t (Point f key node) ≡ Some (State s) → room_of s ≡ length function.slots
entry_room p t f function key node s is shaped at =
    room_of-shaped (slots_at p f) s (shaped (Point f key node) (State s) at).shape ∙ ap (λ (slots : List Slot). length slots) (slots_at-function p f function is)

-- the number of a called function's parameters
pub params_called : (K : FuncGraph → Type 0) (o : Option FuncGraph) (n : ℕ) → IsSomeAnd o (λ (g : FuncGraph). (n ≡ g.params) × K g) → n ≡ params_of_function o
params_called K None n there = absurd there
params_called K (Some g) n there = there.0
