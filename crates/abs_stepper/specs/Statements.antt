-- Moves by statements: steps of one thread, one after another, as long as it stays inside the statement
-- at which it began.
--
-- A reader should check: which label a move takes, and what ends it.
use Rattle.std.specs.Prelude.{◌≡◌, ◌≢◌, ℕ, Bool, true, false, List, [], ◌∷◌, Option, None, Some, IsSomeAnd, filter, option_and_then, slice_get, Contains}
use Rattle.gob_tree.specs.declared.graph.Program.{Program}
use Rattle.gob_tree.specs.declared.place.Place.{Place}
use Rattle.constraint_sys.specs.Table.{nodes_at}
use Rattle.arg_graph.specs.Following.{Offers, StackValue, top_of}
use Rattle.arg_graph.specs.declared.vertex.Label.{Label}
use Rattle.arg_graph.specs.declared.vertex.Label.TheVariants.{Do, Over, Enter, Thread as ThreadOf, Leave}
use Rattle.arg_graph.specs.declared.vertex.Vertex.{Vertex}
use Rattle.abs_stepper.specs.declared.position.Thread.{Thread}
use Rattle.abs_stepper.specs.Positions.{stack_of}
use Rattle.abs_stepper.specs.Stepping.{IsStepped, labels_at}

-- ---- the label that a move takes

abbrev pub is_passing : Label → Bool
is_passing (Do n) = true
is_passing (Over n) = true
is_passing (Enter n) = false
is_passing (ThreadOf n) = false
is_passing Leave = true

abbrev pub is_entering : Label → Bool
is_entering (Do n) = false
is_entering (Over n) = false
is_entering (Enter n) = true
is_entering (ThreadOf n) = false
is_entering Leave = false

-- those among Do, Over and Leave
abbrev pub passing_at : Offers → StackValue → List Label
passing_at offers stack = filter is_passing (labels_at offers stack)

-- those that enter a call
abbrev pub entering_at : Offers → StackValue → List Label
entering_at offers stack = filter is_entering (labels_at offers stack)

-- the one label of a list that has no other
abbrev pub only : List Label → Option Label
only [] = None
only (label ∷ []) = Some label
only (label ∷ other ∷ rest) = None

-- A statement move takes the one label among Do, Over and Leave.
abbrev pub across : Offers → StackValue → Option Label
across offers stack = only (passing_at offers stack)

abbrev pub or_else : Option Label → Option Label → Option Label
or_else None other = other
or_else (Some label) other = Some label

-- A statement entry takes the Enter that is offered alone, and else what a statement move takes.
abbrev pub into : Offers → StackValue → Option Label
into offers stack = or_else (only (entering_at offers stack)) (across offers stack)

-- ---- a thread of a position

-- the vertex on which a thread stands
abbrev pub top_in : List Thread → ℕ → Option Vertex
top_in ts id = option_and_then top_of (stack_of ts id)

-- the label that a thread takes
abbrev pub label_in : (StackValue → Option Label) → List Thread → ℕ → Option Label
label_in chosen ts id = option_and_then chosen (stack_of ts id)

-- ---- where a move goes on

abbrev pub place_of : Program → Vertex → Option Place
place_of p v = slice_get (nodes_at p v.func) v.node

-- A move ends with Leave, and an entry with the Enter that it takes.
abbrev pub stays : Label → Bool
stays (Do n) = true
stays (Over n) = true
stays (Enter n) = false
stays (ThreadOf n) = false
stays Leave = false

-- A move that began at a vertex and last took a label is still inside its statement, where its thread
-- stands at v: that isn't at node 1, is at the place where the move began, and the thread hasn't been
-- there in this move.
pub record IsInside (p : Program) (began : Vertex) (been : List Vertex) (last : Label) (v : Vertex) : Type 0 where
  pub stayed : stays last ≡ true
  pub not_at_exit : v.node ≢ 1
  pub place : place_of p v ≡ place_of p began
  pub new : ¬ Contains been v

-- the thread stands at v, and its move goes on from there by a label
pub record GoesOn (p : Program) (chosen : StackValue → Option Label) (id : ℕ) (began : Vertex) (been : List Vertex) (last : Label) (now : List Thread) (v : Vertex) (label : Label) : Type 0 where
  pub stands : top_in now id ≡ Some v
  pub inside : IsInside p began been last v
  pub takes : label_in chosen now id ≡ Some label

-- ---- moves

-- The thread has made these steps of a move: it was at these vertices, the last one first, took a label
-- at the last of them, and so came to a position.
pub data IsUnderWay (p : Program) (offers : Offers) (chosen : StackValue → Option Label) (id : ℕ) (began : Vertex) (old : List Thread) : List Vertex → Label → List Thread → Type 0 where
  first_step : (label : Label) → (new : List Thread) → label_in chosen old id ≡ Some label → IsStepped offers label id old new
      → IsUnderWay p offers chosen id began old (began ∷ []) label new
  further_step : (been : List Vertex) → (last : Label) → (now : List Thread) → (v : Vertex) → (label : Label) → (new : List Thread)
      → IsUnderWay p offers chosen id began old been last now → GoesOn p chosen id began been last now v label → IsStepped offers label id now new
      → IsUnderWay p offers chosen id began old (v ∷ been) label new

-- the steps so far are all: the move goes on by no label
abbrev pub HasEnded : Program → (StackValue → Option Label) → ℕ → Vertex → List Vertex → Label → List Thread → Type 0
HasEnded p chosen id began been last now = (v : Vertex) (label : Label) → ¬ GoesOn p chosen id began been last now v label

-- A move of a thread, by the labels that are chosen at its stacks.
abbrev pub IsMove : Program → Offers → (StackValue → Option Label) → ℕ → List Thread → List Thread → Type 0
IsMove p offers chosen id old new =
    IsSomeAnd (top_in old id) (λ began. (been : List Vertex) × (last : Label) × IsUnderWay p offers chosen id began old been last new × HasEnded p chosen id began been last new)
