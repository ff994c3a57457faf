-- What a table has at its vertices.
use Rattle.std.proofs.Common.{◌≡◌, ◌∙◌, refl, sym, ap, ℕ, true, List, length, get_or, pos, Option, Some, None, nat_eq, arith}
use Rattle.std.specs.Prelude.{Contains, slice_get}
use Rattle.std.specs.Map.{keys_of}
use Rattle.std.proofs.lemmas.Bool.{and_parts}
use Rattle.std.proofs.lemmas.Bool.Decides.{nat_tests}
use Rattle.std.proofs.lemmas.Option.{get_or_from_slice_get}
use Rattle.gob_tree.specs.declared.graph.Program.{Program}
use Rattle.interval_dom.specs.Bounds.{Bounds, between}
use Rattle.state_dom.specs.StateValue.{StateValue, Bottom, Reached, is_reached, room_of, slots_of}
use Rattle.constraint_sys.specs.declared.unknown.Unknown.TheVariants.{Point}
use Rattle.constraint_sys.specs.declared.value.Value.{Value}
use Rattle.constraint_sys.specs.declared.value.Value.TheVariants.{State, Number}
use Rattle.constraint_sys.specs.Sound.{IsShaped}
use Rattle.constraint_sys.specs.Table.{TableValue, shown, shown_state, slots_at, state_at, value_at}
use Rattle.constraint_sys.specs.Transfer.{shown_number}
use Rattle.constraint_sys.specs.UnknownOrder.{in_unknown_order}
use Rattle.constraint_sys.proofs.Ordered.{Contains-filter}
use Rattle.constraint_sys.proofs.Shaping.{length-fitted}
use Rattle.arg_graph.specs.declared.vertex.Vertex.{Vertex}
use Rattle.arg_graph.specs.Vertices.{IsVertex, has_state, is_at, vertices_at, vertices_of}
use Rattle.arg_graph.proofs.Standing.{vertices_are}
use Rattle.breakpoint_eval.specs.Columns.{slot_at, slots_of_value}

-- a state that isn't Bottom has its room in slots
pub room_reached : (s : StateValue) → is_reached s ≡ true → length (slots_of s) ≡ room_of s
room_reached (Bottom room) e = absurd cc
room_reached (Reached xs locks) e = refl

pub reached_there : (t : TableValue) (v : Vertex) (s : StateValue) → IsVertex t v → value_at t (Point v.func v.key v.node) ≡ Some (State s) → is_reached s ≡ true
reached_there t v s stands at = by s (sym (ap has_state at) ∙ stands)
  where
    by : (s : StateValue) → has_state (Some (State s)) ≡ true → is_reached s ≡ true
    by (Bottom room) e = absurd cc
    by (Reached xs locks) e = refl

pub state_is : (p : Program) (t : TableValue) (v : Vertex) (s : StateValue) → value_at t (Point v.func v.key v.node) ≡ Some (State s) → is_reached s ≡ true → s ≡ state_at p t v.func v.key v.node
state_is p t v (Bottom room) at e = absurd cc
state_is p t v (Reached xs locks) at e = sym (ap (λ (o : Option Value). shown_state (length (slots_at p v.func)) (shown o)) at)

-- a state is shown as no number
pub state_has_no_number : (s : StateValue) → shown_number (shown (Some (State s))) ≡ None
state_has_no_number (Bottom room) = refl
state_has_no_number (Reached xs locks) = refl

-- the slots of a state that is there
pub slots_are : (t : TableValue) (v : Vertex) (s : StateValue) → value_at t (Point v.func v.key v.node) ≡ Some (State s) → slots_of_value (value_at t (Point v.func v.key v.node)) ≡ slots_of s
slots_are t v s at = ap slots_of_value at

pub slot_is : (t : TableValue) (v : Vertex) (slot : ℕ) (s : StateValue) (b : Bounds) → value_at t (Point v.func v.key v.node) ≡ Some (State s) → slice_get (slots_of s) slot ≡ Some b → b ≡ slot_at t slot v
slot_is t v slot s b at is =
    sym (ap (λ (xs : List Bounds). get_or xs slot (between (pos 0) (pos 0))) (slots_are t v s at) ∙ get_or_from_slice_get (slots_of s) slot b (between (pos 0) (pos 0)) is)

-- the slots of the state at a vertex
pub slots_there : (p : Program) (t : TableValue) (v : Vertex) → IsVertex t v → slots_of_value (value_at t (Point v.func v.key v.node)) ≡ slots_of (state_at p t v.func v.key v.node)
slots_there p t v stands = by (value_at t (Point v.func v.key v.node)) stands
  where
    by : (o : Option Value) → has_state o ≡ true → slots_of_value o ≡ slots_of (shown_state (length (slots_at p v.func)) (shown o))
    by None e = absurd cc
    by (Some (State (Bottom room))) e = absurd cc
    by (Some (State (Reached xs locks))) e = refl
    by (Some (Number interval)) e = absurd cc

-- they are as many as those of the function
pub slots_shaped : (p : Program) (t : TableValue) (v : Vertex) → IsShaped p t → IsVertex t v → length (slots_of_value (value_at t (Point v.func v.key v.node))) ≡ length (slots_at p v.func)
slots_shaped p t v shaped stands = by (value_at t (Point v.func v.key v.node)) refl stands
  where
    by : (o : Option Value) → value_at t (Point v.func v.key v.node) ≡ o → has_state o ≡ true → length (slots_of_value o) ≡ length (slots_at p v.func)
    by None is e = absurd cc
    by (Some (State (Bottom room))) is e = absurd cc
    by (Some (State (Reached xs locks))) is e = length-fitted (slots_at p v.func) xs (shaped (Point v.func v.key v.node) (State (Reached xs locks)) is).shape
    by (Some (Number interval)) is e = absurd cc

same_number : (a b : ℕ) → nat_eq a b ≡ true → a ≡ b
same_number a b e = grind (arith, nat_tests)

-- what stands at a node is a vertex of the function
pub stands_at : (t : TableValue) (f node : ℕ) (v : Vertex) → Contains (vertices_at t f node) v → IsVertex t v × (v.func ≡ f)
stands_at t f node v one =
    let found = Contains-filter (is_at f node) (vertices_of t) v one in
    (vertices_are t (in_unknown_order (keys_of t)) v found.0, same_number v.func f (and_parts (nat_eq v.func f) (nat_eq v.node node) found.1).0)
