-- What a table knows of a moment of a run of graphs: each frame stands at a point of the table, in
-- a context, and the states of these points describe the frames.
--
-- A reader should check: that mutexes are spoken of for the topmost frame alone, how a frame that
-- waits is tied to the one above it by its call, and that a thread's first frame is in the empty
-- context.
use Rattle.std.specs.Prelude.{◌≡◌, ℕ, List, [], ◌∷◌, Option, Some, length}
use Rattle.gob_tree.specs.declared.expr.Expr.{Expr}
use Rattle.gob_tree.specs.declared.graph.Action.TheVariants.{Call}
use Rattle.gob_tree.specs.declared.graph.Edge.{Edge}
use Rattle.gob_tree.specs.declared.graph.Program.{Program}
use Rattle.c_meaning.specs.Config.{Config, thread_at}
use Rattle.c_meaning.specs.GraphStep.{Frame, edge_at}
use Rattle.constraint_sys.specs.declared.unknown.Key.{Key}
use Rattle.constraint_sys.specs.declared.unknown.Unknown.TheVariants.{Point}
use Rattle.constraint_sys.specs.Contribution.{outcome_of}
use Rattle.constraint_sys.specs.Table.{TableValue, empty_key, slots_at, state_at}
use Rattle.action_law.specs.Described.{DescribesFrame, DescribesGlobals, DescribesSlots}

-- A frame in a context of its own that waits at a call, below a frame of function f in another
-- context: its slots are described at its own point, and the context above is the one whose exit
-- its call reads.
pub record KnowsCaller (p : Program) (t : TableValue) (caller : Frame) (own : Key) (f : ℕ) (above : Key) : Type 0 where
  pub number : ℕ
  pub edge : Edge
  pub destination : Option ℕ
  pub args : List Expr
  pub waits : caller.waits ≡ Some number
  pub there : edge_at p caller.func number ≡ Some edge
  pub leaves : edge.from ≡ caller.node
  pub calls : edge.act ≡ Call destination f args
  pub slots : DescribesSlots (slots_at p caller.func) (state_at p t caller.func own edge.from) caller.slots
  pub context : (outcome_of p t caller.func own edge).reads ≡ Point f above 1 ∷ []

-- the frames below one of function f in a context, each in a context of its own; the last of all is
-- in the empty one
abbrev pub KnowsCallers : Program → TableValue → ℕ → Key → List Frame → List Key → Type 0
KnowsCallers p t f key [] [] = key ≡ empty_key
KnowsCallers p t f key [] (own ∷ keys) = ⊥
KnowsCallers p t f key (caller ∷ below) [] = ⊥
KnowsCallers p t f key (caller ∷ below) (own ∷ keys) = KnowsCaller p t caller own f key × KnowsCallers p t caller.func own below keys

-- the frames of a thread, each in a context: the topmost one is described at its point, with the
-- mutexes that the thread owns
abbrev pub KnowsThread : Program → TableValue → List (Option ℕ) → ℕ → List Frame → List Key → Type 0
KnowsThread p t owners thread [] keys = ⊥
KnowsThread p t owners thread (top ∷ below) [] = ⊥
KnowsThread p t owners thread (top ∷ below) (key ∷ keys) =
    DescribesFrame p owners thread (state_at p t top.func key top.node) top × KnowsCallers p t top.func key below keys

-- each global is in its interval, each mutex has its place among the owners, and each thread's
-- frames are known in some contexts
pub record IsKnown (p : Program) (t : TableValue) (c : Config Frame) : Type 0 where
  pub globals : DescribesGlobals p t c
  pub owners : length c.owners ≡ length p.mutexes
  pub threads : (thread : ℕ) (frames : List Frame) → thread_at c.threads thread ≡ Some frames → (keys : List Key) × KnowsThread p t c.owners thread frames keys
