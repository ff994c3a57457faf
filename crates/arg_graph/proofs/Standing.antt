-- What holds of vertices of a table, and that what is none offers nothing.
use Rattle.std.proofs.Common.{◌≡◌, inl, inr, ℕ, ◌+◌, ◌<◌, Bool, true, false, cond, true≢false, List, [], ◌∷◌, ◌++◌, Option, None, Some, length, refl, sym, ap, subst, ◌∙◌, arith}
use Rattle.std.specs.Prelude.{Contains}
use Rattle.std.specs.List.{flat_map}
use Rattle.std.specs.Map.{keys_of}
use Rattle.std.proofs.lemmas.Bool.Decides.{nat_tests}
use Rattle.gob_tree.specs.declared.graph.Edge.{Edge}
use Rattle.gob_tree.specs.declared.graph.Program.{Program}
use Rattle.state_dom.specs.StateValue.{StateValue, Bottom, Reached}
use Rattle.constraint_sys.specs.declared.unknown.Key.{Key}
use Rattle.constraint_sys.specs.declared.unknown.Unknown.{Unknown}
use Rattle.constraint_sys.specs.declared.unknown.Unknown.TheVariants.{Point, Global}
use Rattle.constraint_sys.specs.declared.value.Value.{Value}
use Rattle.constraint_sys.specs.declared.value.Value.TheVariants.{State, Number}
use Rattle.constraint_sys.specs.Contribution.{outcome_of}
use Rattle.constraint_sys.specs.Index.{begins_at}
use Rattle.constraint_sys.specs.Sound.{IsShaped, IsShapedEntry}
use Rattle.constraint_sys.specs.Table.{TableValue, edges_at, nodes_at, shown, shown_state, slots_at, state_at, unknown_eq, value_at}
use Rattle.constraint_sys.specs.Transfer.{transfer}
use Rattle.constraint_sys.proofs.Entries.{unknown_eq-same}
use Rattle.constraint_sys.proofs.Ordered.{Contains-cases, Contains-flat_map, Contains-flat_mapped, Contains-head, Contains-nil, Contains-tail}
use Rattle.constraint_sys.proofs.Rooms.{entry_within}
use Rattle.arg_graph.specs.Offered.{begun, beginning, offered, steps_by, steps_from}
use Rattle.arg_graph.specs.Vertices.{has_state, is_vertex, vertex_at, vertex_of}
use Rattle.arg_graph.specs.declared.vertex.Label.{Label}
use Rattle.arg_graph.specs.declared.vertex.Step.{Step}
use Rattle.arg_graph.specs.declared.vertex.Vertex.{Vertex}

-- ---- what a table has is among its unknowns
key_there : (t : TableValue) (u : Unknown) (v : Value) → value_at t u ≡ Some v → Contains (keys_of t) u
key_there [] u v is = cc is
key_there (e ∷ t) u v is = by (unknown_eq u e.0) refl is (λ found. key_there t u v found)
  where
    by : (b : Bool) → unknown_eq u e.0 ≡ b → cond b (Some e.1) (value_at t u) ≡ Some v → (value_at t u ≡ Some v → Contains (keys_of t) u) → Contains (keys_of (e ∷ t)) u
    by true same found later = subst (λ (x : Unknown). Contains (keys_of (e ∷ t)) x) (sym (unknown_eq-same u e.0 same)) (Contains-head e.0 (keys_of t))
    by false other found later = Contains-tail e.0 u (keys_of t) (later found)

point : Vertex → Unknown
point v = Point v.func v.key v.node

state_there : (o : Option Value) → has_state o ≡ true → (v : Value) × (o ≡ Some v)
state_there None has = absurd (true≢false (sym has))
state_there (Some v) has = (v, refl)

-- ---- vertices of lists of unknowns
vertex_case : (b : Bool) (v w : Vertex) → Contains (cond b (v ∷ []) []) w → (b ≡ true) × (w ≡ v)
vertex_case true v w one = elim (Contains-cases v w [] one) [ inl same ↦ (refl, same) | inr none ↦ absurd (Contains-nil w none) ]
vertex_case false v w one = absurd (Contains-nil w one)

-- a vertex of an unknown is a vertex
vertex_of-is : (t : TableValue) (u : Unknown) (v : Vertex) → Contains (vertex_of t u) v → is_vertex t v ≡ true
vertex_of-is t (Point f key node) v one =
    let both = vertex_case (is_vertex t (vertex_at f key node)) (vertex_at f key node) v one in
    ap (is_vertex t) both.1 ∙ both.0
vertex_of-is t (Global g) v one = absurd (Contains-nil v one)

pub vertices_are : (t : TableValue) (us : List Unknown) (v : Vertex) → Contains (flat_map (vertex_of t) us) v → is_vertex t v ≡ true
vertices_are t us v one = (let from = Contains-flat_map (vertex_of t) us v one in vertex_of-is t from.0 v from.2)

pub vertices_all : (t : TableValue) (us : List Unknown) → ((u : Unknown) → Contains (keys_of t) u → Contains us u) → (v : Vertex) → is_vertex t v ≡ true → Contains (flat_map (vertex_of t) us) v
vertices_all t us has v is =
    let some = state_there (value_at t (Point v.func v.key v.node)) is in
    let here : Contains (cond (is_vertex t v) (v ∷ []) []) v = rw is (Contains-head v []) in
    Contains-flat_mapped (vertex_of t) us (Point v.func v.key v.node) v (has (Point v.func v.key v.node) (key_there t (Point v.func v.key v.node) some.0 some.1)) here

-- ---- a vertex of a table with the program's shape
within_entry : (p : Program) (f : ℕ) (key : Key) (node : ℕ) (v : Value) → IsShapedEntry p (Point f key node) v → node < length (nodes_at p f)
within_entry p f key node (State s) shaped = shaped.within
within_entry p f key node (Number interval) shaped = absurd shaped

pub vertex_within : (p : Program) (t : TableValue) → IsShaped p t → (v : Vertex) → is_vertex t v ≡ true → (v.func < length p.funcs) × (v.node < length (nodes_at p v.func))
vertex_within p t shaped v is =
    let some = state_there (value_at t (Point v.func v.key v.node)) is in
    let entry = shaped (Point v.func v.key v.node) some.0 some.1 in
    (entry_within p v.func v.key v.node some.0 entry, within_entry p v.func v.key v.node some.0 entry)

-- ---- what is no vertex offers nothing
shown_bottom : (room : ℕ) (o : Option Value) → has_state o ≡ false → shown_state room (shown o) ≡ Bottom room
shown_bottom room None has = refl
shown_bottom room (Some (State (Bottom r))) has = refl
shown_bottom room (Some (State (Reached slots locks))) has = absurd (true≢false has)
shown_bottom room (Some (Number interval)) has = refl

begun_none : (o : Option Label) → begun o [] ≡ []
begun_none None = refl
begun_none (Some label) = refl

module _ (p : Program) (t : TableValue) (v : Vertex) (none : is_vertex t v ≡ false) where
  bottom : state_at p t v.func v.key v.node ≡ Bottom (length (slots_at p v.func))
  bottom = shown_bottom (length (slots_at p v.func)) (value_at t (Point v.func v.key v.node)) none

  nothing : (n : ℕ) (e : Edge) (b : Bool) → begins_at v.node e ≡ b → cond b (steps_by v n e (outcome_of p t v.func v.key e)) [] ≡ []
  nothing n e false test = refl
  nothing n e true test =
      let from : e.from ≡ v.node = grind (arith, nat_tests) in
      let state : state_at p t v.func v.key e.from ≡ Bottom (length (slots_at p v.func)) = ap (state_at p t v.func v.key) from ∙ bottom in
      ap (λ (s : StateValue). steps_by v n e (transfer p t v.func e.act s)) state ∙ begun_none (beginning n e.act)

  none_from : (n : ℕ) (es : List Edge) → steps_from p t v n es ≡ []
  none_from n [] = refl
  none_from n (e ∷ es) = ap (λ (l : List Step). l ++ steps_from p t v (n + 1) es) (nothing n e (begins_at v.node e) refl) ∙ none_from (n + 1) es

  pub offers_none : offered p t v ≡ []
  offers_none = none_from 0 (edges_at p v.func)
