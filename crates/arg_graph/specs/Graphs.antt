-- What a graph shows, and when it is the graph of a table.
use Rattle.std.specs.Prelude.{◌≡◌, ◌<◌, ℕ, Bool, List, [], Option, None, Some, IsSomeAnd, length, slice_get}
use Rattle.std.specs.Global.{Vec}
use Rattle.std.specs.List.Sorted.{IsStrictlySortedBy}
use Rattle.std.specs.Map.{lookup}
use Rattle.std.specs.declared.cmp.Ordering.{Ordering}
use Rattle.gob_tree.specs.declared.graph.Program.{Program}
use Rattle.constraint_sys.specs.Table.{TableValue}
use Rattle.arg_graph.specs.declared.graph.Graph.{Graph}
use Rattle.arg_graph.specs.declared.vertex.Step.{Step}
use Rattle.arg_graph.specs.declared.vertex.Vertex.{Vertex}
use Rattle.arg_graph.specs.contracts.vertex.VertexOrd.TheImpl.{ghosts as orders}
use Rattle.arg_graph.specs.contracts.vertex.VertexPartialEq.TheImpl.{ghosts as vertices}
use Rattle.arg_graph.specs.Offered.{offered}
use Rattle.arg_graph.specs.Vertices.{vertices_at, vertices_of}

abbrev pub vertex_eq : Vertex → Vertex → Bool
vertex_eq = vertices.eq

-- the order of unknowns: by function, then key, then node
abbrev pub vertex_cmp : Vertex → Vertex → Ordering
vertex_cmp = orders.cmp

-- ---- what its parts show

abbrev pub steps_in : List (Vertex × List Step) → Vertex → Option (List Step)
steps_in entries v = lookup (vertex_eq v) entries

abbrev pub steps_or_none : Option (List Step) → List Step
steps_or_none None = []
steps_or_none (Some steps) = steps

abbrev pub vertices_or_none : Option (List Vertex) → List Vertex
vertices_or_none None = []
vertices_or_none (Some vs) = vs

-- the list of a node
abbrev pub row_for : List (List Vertex) → ℕ → List Vertex
row_for rows node = vertices_or_none (slice_get rows node)

abbrev pub row_in : Option (Vec (List Vertex)) → ℕ → List Vertex
row_in None node = []
row_in (Some rows) node = row_for rows.items node

-- the list of a function's node
abbrev pub row_of : List (Vec (List Vertex)) → ℕ → ℕ → List Vertex
row_of rows f node = row_in (slice_get rows f) node

-- there is a list for a function's node
abbrev pub HasRoom : List (Vec (List Vertex)) → ℕ → ℕ → Type 0
HasRoom rows f node = IsSomeAnd (slice_get rows f) (λ (row : Vec (List Vertex)). node < length row.items)

-- ---- what a graph shows

abbrev pub vertices_in : Graph → List Vertex
vertices_in g = g.vertices

-- the steps from what may be a vertex
abbrev pub offered_in : Graph → Vertex → List Step
offered_in g v = steps_or_none (steps_in g.steps.entries v)

-- the vertices at a node of function f
abbrev pub nodes_in : Graph → ℕ → ℕ → List Vertex
nodes_in g f node = row_of g.nodes.items f node

-- The graph shows the vertices of the table, each once and in their order, all and at each node, and
-- the steps that are offered at each; what is no vertex offers none.
pub record IsGraphOf (p : Program) (t : TableValue) (g : Graph) : Type 0 where
  pub vertices : vertices_in g ≡ vertices_of t
  pub in_order : IsStrictlySortedBy vertex_cmp (vertices_in g)
  pub at_node : (f node : ℕ) → nodes_in g f node ≡ vertices_at t f node
  pub steps : (v : Vertex) → offered_in g v ≡ offered p t v
