-- The vertices of a table: its points that aren't Bottom, in the order of unknowns.
--
-- A reader should check: that no point without a state, and no global, is a vertex.
use Rattle.std.specs.Prelude.{ℕ, Bool, true, false, ◌&&◌, nat_eq, List, [], ◌∷◌, Option, None, Some, filter, if◌then◌else◌, IsTrue}
use Rattle.std.specs.List.{flat_map}
use Rattle.std.specs.Map.{keys_of}
use Rattle.state_dom.specs.StateValue.{Bottom, Reached}
use Rattle.constraint_sys.specs.declared.unknown.Key.{Key}
use Rattle.constraint_sys.specs.declared.unknown.Unknown.{Unknown}
use Rattle.constraint_sys.specs.declared.unknown.Unknown.TheVariants.{Point, Global}
use Rattle.constraint_sys.specs.declared.value.Value.{Value}
use Rattle.constraint_sys.specs.declared.value.Value.TheVariants.{State, Number}
use Rattle.constraint_sys.specs.Table.{TableValue, empty_key, value_at}
use Rattle.constraint_sys.specs.UnknownOrder.{in_unknown_order}
use Rattle.arg_graph.specs.declared.vertex.Vertex.{Vertex}

-- ---- points

-- a node of function f in a context
abbrev pub vertex_at : ℕ → Key → ℕ → Vertex
vertex_at f key node = record { func = f; key = key; node = node }

-- where `main` and the function of a thread begin
abbrev pub start_in : ℕ → Vertex
start_in f = vertex_at f empty_key 0

-- ---- vertices

-- whether there is a state that isn't Bottom
abbrev pub has_state : Option Value → Bool
has_state None = false
has_state (Some (State (Bottom room))) = false
has_state (Some (State (Reached slots locks))) = true
has_state (Some (Number interval)) = false

-- whether the table has the point, and its state isn't Bottom
abbrev pub is_vertex : TableValue → Vertex → Bool
is_vertex t v = has_state (value_at t (Point v.func v.key v.node))

abbrev pub IsVertex : TableValue → Vertex → Type 0
IsVertex t v = IsTrue (is_vertex t v)

-- the vertex that an unknown is, if it is one
abbrev pub vertex_of : TableValue → Unknown → List Vertex
vertex_of t (Point f key node) = if is_vertex t (vertex_at f key node) then vertex_at f key node ∷ [] else []
vertex_of t (Global g) = []

-- all vertices of a table, in the order of unknowns
abbrev pub vertices_of : TableValue → List Vertex
vertices_of t = flat_map (vertex_of t) (in_unknown_order (keys_of t))

-- whether a vertex stands at a node of a function
abbrev pub is_at : ℕ → ℕ → Vertex → Bool
is_at f node v = nat_eq v.func f && nat_eq v.node node

-- the vertices at a node, in the order of unknowns
abbrev pub vertices_at : TableValue → ℕ → ℕ → List Vertex
vertices_at t f node = filter (is_at f node) (vertices_of t)
