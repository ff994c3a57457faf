-- Positions: threads that stand at one node, each with its stack.
--
-- A reader should check: that ids differ, and that all tops share a function and a node.
use Rattle.std.specs.Prelude.{◌≡◌, ◌<◌, ℕ, nat_eq, List, [], ◌∷◌, Option, None, Some, if◌then◌else◌, IsSomeAnd, length, map, Contains}
use Rattle.std.specs.List.{IsDistinct}
use Rattle.gob_tree.specs.declared.graph.Program.{Program}
use Rattle.arg_graph.specs.Following.{StackValue, rooted, top_of}
use Rattle.arg_graph.specs.Vertices.{start_in}
use Rattle.abs_stepper.specs.declared.position.Thread.{Thread}

-- the stack of the thread with an id, if there is one
abbrev pub stack_of : List Thread → ℕ → Option StackValue
stack_of [] id = None
stack_of (t ∷ ts) id = if nat_eq t.id id then Some t.stack else stack_of ts id

-- the last frame stands at the function's node
abbrev pub StandsAt : ℕ → ℕ → StackValue → Type 0
StandsAt f node stack = IsSomeAnd (top_of stack) (λ v. (v.func ≡ f) × (v.node ≡ node))

-- all stand at one node
abbrev pub StandTogether : List Thread → Type 0
StandTogether ts = (f : ℕ) × (node : ℕ) × ((t : Thread) → Contains ts t → StandsAt f node t.stack)

abbrev pub ids_of : List Thread → List ℕ
ids_of ts = map (λ (t : Thread). t.id) ts

-- some threads, with ids that differ, whose tops share one function and node
pub record IsPosition (ts : List Thread) : Type 0 where
  pub some : 0 < length ts
  pub apart : IsDistinct nat_eq (ids_of ts)
  pub together : StandTogether ts

-- thread 1 at the start of `main`
abbrev pub entry_of : Program → List Thread
entry_of p = record { id = 1; stack = rooted (start_in p.main) } ∷ []
