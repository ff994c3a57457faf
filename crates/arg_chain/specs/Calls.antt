-- The calls of a graph as a graph of numbers: first the vertices, in their order, then the contexts.
-- From a context hops of edge 0 lead to its vertices, and from a vertex a hop of a call's edge leads to
-- the context that the call enters.
--
-- A reader should check: that contexts have their numbers in the order of their vertices, and that a
-- hop between them stands for nothing but Enter.
use Rattle.std.specs.Prelude.{◌≡◌, ◌⊎◌, ◌↔◌, ◌≤◌, ◌<◌, ◌+◌, ◌^◌, ℕ, List, [], ◌∷◌, ◌++◌, Option, None, Some, length, slice_get, Contains}
use Rattle.std.specs.Map.{lookup}
use Rattle.gob_tree.specs.declared.graph.Program.{Program}
use Rattle.constraint_sys.specs.Sound.{IsStarted}
use Rattle.arg_graph.specs.Following.{Offers, StackValue}
use Rattle.arg_graph.specs.Graphs.{vertex_eq}
use Rattle.arg_graph.specs.Vertices.{start_in, vertex_at}
use Rattle.arg_graph.specs.declared.stack.Frame.{Frame}
use Rattle.arg_graph.specs.declared.vertex.Label.{Label}
use Rattle.arg_graph.specs.declared.vertex.Label.TheVariants.{Do, Over, Enter, Thread, Leave}
use Rattle.arg_graph.specs.declared.vertex.Step.{Step}
use Rattle.arg_graph.specs.declared.vertex.Vertex.{Vertex}
use Rattle.arg_chain.specs.declared.hop.Hop.{Hop}
use Rattle.arg_chain.specs.Chains.{IsFellow}
use Rattle.arg_chain.specs.Walk.{Graph, IsGraph, steps_at}

-- ---- contexts

-- a function in a context, by where it begins
abbrev pub context_of : Vertex → Vertex
context_of v = vertex_at v.func v.key 0

-- the number of a vertex's context
abbrev pub number_in : List (Vertex × ℕ) → Vertex → Option ℕ
number_in numbers v = lookup (vertex_eq (context_of v)) numbers

abbrev pub hop_by : ℕ → ℕ → Hop
hop_by edge to = record { edge = edge; to = to }

-- a hop to one of the first n vertices, of the context with the number k
pub record IsMember (vs : List Vertex) (n : ℕ) (numbers : List (Vertex × ℕ)) (k : ℕ) (h : Hop) : Type 0 where
  pub edge : h.edge ≡ 0
  pub within : h.to < n
  pub vertex : (v : Vertex) × (slice_get vs h.to ≡ Some v) × (number_in numbers v ≡ Some k)

-- The contexts of the first n vertices have numbers below the count, each its own, in the order of its
-- vertices.
pub record IsNumbered (vs : List Vertex) (n : ℕ) (numbers : List (Vertex × ℕ)) (count : ℕ) : Type 0 where
  pub each : (i : ℕ) (v : Vertex) → i < n → slice_get vs i ≡ Some v → (k : ℕ) × (number_in numbers v ≡ Some k)
  pub only : (v : Vertex) (k : ℕ) → number_in numbers v ≡ Some k → (k < count) × ((i : ℕ) × (w : Vertex) × (i < n) × (slice_get vs i ≡ Some w) × IsFellow w v)
  pub apart : (v w : Vertex) (k : ℕ) → number_in numbers v ≡ Some k → number_in numbers w ≡ Some k → IsFellow v w
  pub in_order : (i j : ℕ) (v w : Vertex) (k l : ℕ) → j < n → i ≤ j → slice_get vs i ≡ Some v → slice_get vs j ≡ Some w → number_in numbers v ≡ Some k → number_in numbers w ≡ Some l → k ≤ l

-- the vertices of one context stand side by side
abbrev pub AreInBlocks : List Vertex → Type 0
AreInBlocks vs = (i j n : ℕ) (u v w : Vertex) → i ≤ j → j ≤ n → slice_get vs i ≡ Some u → slice_get vs j ≡ Some v → slice_get vs n ≡ Some w → IsFellow u w → IsFellow u v

-- a hop to one of the first n vertices, from its context, behind so many vertices
abbrev pub IsHopToMember : List Vertex → ℕ → List (Vertex × ℕ) → ℕ → ℕ → Hop → Type 0
IsHopToMember vs n numbers count j h = (i : ℕ) × (v : Vertex) × (i < n) × (slice_get vs i ≡ Some v) × ((k : ℕ) × (number_in numbers v ≡ Some k) × (j ≡ count + k) × (h ≡ hop_by 0 i))

-- some hops more
abbrev pub HasMore : Graph → Graph → (ℕ → Hop → Type 0) → Type 0
HasMore old new More = (j : ℕ) (h : Hop) → Contains (steps_at new j) h ↔ (Contains (steps_at old j) h ⊎ More j h)

-- the numbers of contexts, behind those of so many vertices, fit a machine's word
abbrev pub HasNumbersWithin : ℕ → List (Vertex × ℕ) → Type 0
HasNumbersWithin count numbers = (v : Vertex) (k : ℕ) → number_in numbers v ≡ Some k → count + k < 2 ^ 64

-- ---- calls

-- a hop to a context with a number, where there are so many vertices
abbrev pub hop_into : ℕ → ℕ → Option ℕ → List Hop
hop_into count edge None = []
hop_into count edge (Some k) = hop_by edge (count + k) ∷ []

abbrev pub hop_of_label : List (Vertex × ℕ) → ℕ → Label → Vertex → List Hop
hop_of_label numbers count (Do n) to = []
hop_of_label numbers count (Over n) to = []
hop_of_label numbers count (Enter n) to = hop_into count n (number_in numbers to)
hop_of_label numbers count (Thread n) to = []
hop_of_label numbers count Leave to = []

-- the hop by a step, where it enters a call
abbrev pub hop_of : List (Vertex × ℕ) → ℕ → Step → List Hop
hop_of numbers count s = hop_of_label numbers count s.label s.to

-- A hop by Enter of its edge, which these steps offer.
abbrev pub IsCall : List (Vertex × ℕ) → ℕ → List Step → Hop → Type 0
IsCall numbers count steps h = (to : Vertex) × Contains steps (record { label = Enter h.edge; to = to }) × ((k : ℕ) × (number_in numbers to ≡ Some k) × (h.to ≡ count + k))

-- The rows are the calls of a graph with these vertices, which offer these steps.
pub record IsCallsOf (vs : List Vertex) (offers : Offers) (numbers : List (Vertex × ℕ)) (rows : Graph) : Type 0 where
  pub graph : IsGraph rows
  pub count : length vs ≤ length rows
  pub numbered : (v : Vertex) (k : ℕ) → number_in numbers v ≡ Some k → length vs + k < length rows
  pub each : (i : ℕ) (v : Vertex) → slice_get vs i ≡ Some v → (k : ℕ) × (number_in numbers v ≡ Some k) × Contains (steps_at rows (length vs + k)) (hop_by 0 i)
  pub members : (k : ℕ) (h : Hop) → Contains (steps_at rows (length vs + k)) h → IsMember vs (length vs) numbers k h
  pub apart : (v w : Vertex) (k : ℕ) → number_in numbers v ≡ Some k → number_in numbers w ≡ Some k → IsFellow v w
  pub in_order : (i j : ℕ) (v w : Vertex) (k l : ℕ) → i ≤ j → slice_get vs i ≡ Some v → slice_get vs j ≡ Some w → number_in numbers v ≡ Some k → number_in numbers w ≡ Some l → k ≤ l
  pub calls : (i : ℕ) (v : Vertex) (h : Hop) → slice_get vs i ≡ Some v → Contains (steps_at rows i) h ↔ IsCall numbers (length vs) (offers v) h

-- ---- roots

-- the number of a vertex's context, where a thread begins at the vertex
abbrev pub IsRootBy : Program → List (Vertex × ℕ) → ℕ → Vertex → ℕ → Type 0
IsRootBy p numbers count v r = IsStarted p v.func × (v ≡ start_in v.func) × ((k : ℕ) × (number_in numbers v ≡ Some k) × (r ≡ count + k))

-- the number of a context in which a thread begins
abbrev pub IsRootNumber : Program → List Vertex → ℕ → List (Vertex × ℕ) → ℕ → Type 0
IsRootNumber p vs count numbers r = (v : Vertex) × Contains vs v × IsRootBy p numbers count v r

-- ---- stacks

abbrev pub frame_for : Option Vertex → Option ℕ → List Frame
frame_for None call = []
frame_for (Some v) call = record { vertex = v; call = call } ∷ []

-- the frames of hops that lead, in turn, from a context to a vertex and from a vertex to a context
abbrev pub frames_of : List Vertex → List Hop → StackValue
frames_of vs [] = []
frames_of vs (h ∷ []) = frame_for (slice_get vs h.to) None
frames_of vs (h ∷ s ∷ rest) = frame_for (slice_get vs h.to) (Some s.edge) ++ frames_of vs rest
