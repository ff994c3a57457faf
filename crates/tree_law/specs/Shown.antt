-- What a table shows of a configuration of trees for which one of graphs stands.
--
-- A reader should check: that the stack is the one to which the thread's own walk leads, and that the
-- intervals are those at the node and in the context of the frame's place in it.
use Rattle.std.specs.Prelude.{◌≡◌, ℕ, ℤ, List, [], ◌∷◌, Some, slice_get}
use Rattle.gob_tree.specs.declared.unit.Unit.{Unit as TranslationUnit}
use Rattle.interval_dom.specs.Bounds.{Bounds, Describes}
use Rattle.c_meaning.specs.Config.{Config, thread_at}
use Rattle.c_meaning.specs.Graph.{program_of}
use Rattle.c_meaning.specs.GraphStep as Graph
use Rattle.c_meaning.specs.Tree as Tree
use Rattle.c_meaning.specs.Walk.{StandsThread, Walked}
use Rattle.state_dom.specs.StateValue.{slots_of}
use Rattle.constraint_sys.specs.declared.unknown.Key.{Key}
use Rattle.constraint_sys.specs.Table.{TableValue, state_at}
use Rattle.arg_graph.specs.Following.{followed}
use Rattle.arg_graph.specs.Offered.{offered}
use Rattle.run_law.specs.Known.{KnowsThread}
use Rattle.walk_law.specs.Walked.{root_of, stack_of, walk_by}

-- each number is in the interval of its place; behind it may be intervals of temporaries
abbrev pub DescribesFirst : List Bounds → List ℤ → Type 0
DescribesFirst xs [] = Unit {0}
DescribesFirst [] (n ∷ ns) = ⊥
DescribesFirst (x ∷ xs) (n ∷ ns) = Describes x n × DescribesFirst xs ns

-- a frame's named slots are in the intervals that the table shows where its graph frame stands
pub record ShowsFrame (unit : TranslationUnit) (t : TableValue) (graph : List Graph.Frame) (keys : List Key) (j : ℕ) (frame : Tree.Frame) : Type 0 where
  pub stands_for_it : Graph.Frame
  pub context : Key
  pub graph_there : slice_get graph j ≡ Some stands_for_it
  pub context_there : slice_get keys j ≡ Some context
  pub func : frame.func ≡ stands_for_it.func
  pub named : DescribesFirst (slots_of (state_at (program_of unit) t frame.func context stands_for_it.node)) frame.slots

-- A thread of trees is shown: graph frames stand for its frames; its walk follows offered steps to
-- their stack, in contexts in which the table knows them, with the owners of the trees; and each
-- frame's named slots are shown.
pub record ShowsThread (unit : TranslationUnit) (t : TableValue) (c : Config Tree.Frame) (w : Walked) (thread : ℕ) (frames : List Tree.Frame) : Type 0 where
  pub graph : List Graph.Frame
  pub keys : List Key
  pub there : thread_at w.config.threads thread ≡ Some graph
  pub stands : StandsThread unit frames graph
  pub walk : followed (offered (program_of unit) t) (root_of graph) (walk_by thread w.moves) ≡ Some (stack_of graph keys)
  pub known : KnowsThread (program_of unit) t c.owners thread graph keys
  pub shown : (j : ℕ) (frame : Tree.Frame) → slice_get frames j ≡ Some frame → ShowsFrame unit t graph keys j frame
