-- Chains: the stacks of calls that lead to a vertex from where a thread begins, and the least of them.
--
-- A reader should check: which frame must enter which, where a chain may begin, and what comes first
-- where two chains are equally long.
use Rattle.std.specs.Prelude.{◌≡◌, ◌⊎◌, ◌≤◌, ℕ, List, [], ◌∷◌, map, length, Contains, IsSomeAnd}
use Rattle.std.specs.List.{flat_map}
use Rattle.std.specs.Option.{option_to_list}
use Rattle.std.specs.Ordering.{nat_cmp}
use Rattle.std.specs.declared.cmp.Ordering.{Ordering}
use Rattle.std.specs.declared.cmp.Ordering.TheVariants.{Less}
use Rattle.gob_tree.specs.declared.graph.Program.{Program}
use Rattle.constraint_sys.specs.Sound.{IsStarted}
use Rattle.constraint_sys.specs.Table.{empty_key}
use Rattle.arg_graph.specs.Following.{Offers, StackValue, top_frame}
use Rattle.arg_graph.specs.Graphs.{vertex_cmp}
use Rattle.arg_graph.specs.Vertices.{start_in}
use Rattle.arg_graph.specs.declared.stack.Frame.{Frame}
use Rattle.arg_graph.specs.declared.vertex.Label.TheVariants.{Enter}
use Rattle.arg_graph.specs.declared.vertex.Vertex.{Vertex}

-- ---- chains

-- two vertices are of one function in one context
abbrev pub IsFellow : Vertex → Vertex → Type 0
IsFellow v w = (v.func ≡ w.func) × (v.key ≡ w.key)

-- Enter of a call's edge is offered at v, and leads to the function and context of the next frame
abbrev pub Enters : Offers → Vertex → ℕ → Vertex → Type 0
Enters offers v edge next = (to : Vertex) × Contains (offers v) (record { label = Enter edge; to = to }) × IsFellow to next

-- each frame but the last waits at a call that enters the next one, and the last stands at v
abbrev pub CallsTo : Offers → StackValue → Vertex → Type 0
CallsTo offers [] v = ⊥
CallsTo offers (x ∷ []) v = x ≡ top_frame v
CallsTo offers (x ∷ y ∷ rest) v = IsSomeAnd x.call (λ edge. Enters offers x.vertex edge y.vertex) × CallsTo offers (y ∷ rest) v

-- a vertex of `main` or of a thread's function, in the context in which these start, whose start is a
-- vertex
pub record IsRooted (p : Program) (vs : List Vertex) (v : Vertex) : Type 0 where
  pub started : IsStarted p v.func
  pub key : v.key ≡ empty_key
  pub start : Contains vs (start_in v.func)

abbrev pub BeginsRooted : Program → List Vertex → StackValue → Type 0
BeginsRooted p vs [] = ⊥
BeginsRooted p vs (x ∷ rest) = IsRooted p vs x.vertex

-- a chain of v, where these are the vertices and the steps that they offer
pub record IsChain (p : Program) (vs : List Vertex) (offers : Offers) (v : Vertex) (stack : StackValue) : Type 0 where
  pub vertex : Contains vs v
  pub root : BeginsRooted p vs stack
  pub calls : CallsTo offers stack v

-- ---- the least of them

-- equal, or less at the first place where they differ
abbrev pub IsUpTo : {X : Type 0} → (X → X → Ordering) → List X → List X → Type 0
IsUpTo cmp [] ys = Unit {0}
IsUpTo cmp (x ∷ xs) [] = ⊥
IsUpTo cmp (x ∷ xs) (y ∷ ys) = (cmp x y ≡ Less) ⊎ ((x ≡ y) × IsUpTo cmp xs ys)

abbrev pub vertices_on : StackValue → List Vertex
vertices_on stack = map (λ (x : Frame). x.vertex) stack

-- the edges of the calls, from the root
abbrev pub edges_on : StackValue → List ℕ
edges_on stack = flat_map (λ (x : Frame). option_to_list x.call) stack

-- A chain that no other precedes: none is shorter; of those of its length none is less by vertices; of
-- those with its vertices none is less by edges. Both are compared from the root.
pub record IsLeastChain (p : Program) (vs : List Vertex) (offers : Offers) (v : Vertex) (stack : StackValue) : Type 0 where
  pub chain : IsChain p vs offers v stack
  pub shortest : (other : StackValue) → IsChain p vs offers v other → length stack ≤ length other
  pub vertices : (other : StackValue) → IsChain p vs offers v other → length other ≡ length stack → IsUpTo vertex_cmp (vertices_on stack) (vertices_on other)
  pub edges : (other : StackValue) → IsChain p vs offers v other → vertices_on other ≡ vertices_on stack → IsUpTo nat_cmp (edges_on stack) (edges_on other)
