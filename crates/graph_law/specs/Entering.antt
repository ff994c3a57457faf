-- New frames: a function's tree at its start and its graph at its entry are the same moment.
use Rattle.std.specs.Prelude.{◌≡◌, ℤ, List, [], ◌∷◌, length, take, Some}
use Rattle.gob_tree.specs.declared.stmt.Placed.{Placed}
use Rattle.gob_tree.specs.declared.unit.Function.{Function}
use Rattle.c_meaning.specs.Config.{first_values}
use Rattle.c_meaning.specs.Tree.{statements, unrolling}
use Rattle.c_meaning.specs.Graph.{flow_of, graph_slots}
use Rattle.c_meaning.specs.Walk.{Moment, settled_from, StandsInFront}

-- where a new frame of a function settles, with these arguments
abbrev pub entered : Function → List ℤ → Moment
entered f args = (settled_from (graph_slots f) (flow_of f).edges (record { node = 0; slots = first_values (graph_slots f) args })).1

-- A new frame's list to do and the settled entry of the graph are the same moment, and the named
-- slots are those of the tree's frame.
pub record IsEntered (f : Function) (args : List ℤ) : Type 0 where
  pub front : StandsInFront (Some f) (unrolling (statements f.body)) (first_values f.slots args) [] (entered f args).node (entered f args).slots
  pub named : take (length f.slots) (entered f args).slots ≡ first_values f.slots args

-- whatever the function, if its body has a statement, and whatever the arguments
abbrev pub NewFramesStand : Type 0
NewFramesStand = (f : Function) (s : Placed) (ss : List Placed) (args : List ℤ) → f.body ≡ s ∷ ss → IsEntered f args
