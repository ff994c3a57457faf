-- Steps of the graphs of a small program, by hand: what a join, the start of a thread and the start of
-- a call do to owners and frames.
use Rattle.std.specs.Prelude.{ℕ, pos, negsuc, List, [], ◌∷◌, Option, None, Some}
use Rattle.gob_tree.specs.declared.expr.Width.TheVariants.{W64}
use Rattle.gob_tree.specs.declared.expr.Expr.{Number}
use Rattle.gob_tree.specs.declared.graph.Action.TheVariants.{Assign, Lock, Create, Join, Call, Skip}
use Rattle.gob_tree.specs.declared.graph.Program.{Program}
use Rattle.c_meaning.specs.Config.{Config}
use Rattle.c_meaning.specs.Graph.{FlowGraph, graph_with}
use Rattle.c_meaning.specs.GraphStep.{Frame, Do}
use Rattle.c_meaning.specs.Walk.{Move}
use Rattle.c_meaning.specs.Samples.{place, int}
use Rattle.c_meaning.specs.StepExamples.{called, waited, holding_main, held}
use Rattle.c_meaning.specs.GraphExamples.{silent_edge, visible_edge}
use Rattle.c_meaning.specs.WalkExamples.{by, called_flow}

abbrev pub waited_flow : FlowGraph
waited_flow = record {
  named = 1;
  temps = [];
  nodes = place 1 7 ∷ place 1 30 ∷ place 1 20 ∷ [];
  edges = silent_edge 0 Skip 2 ∷ visible_edge 2 Skip 1 ∷ [];
}

abbrev pub holding_flow : FlowGraph
holding_flow = record {
  named = 1;
  temps = [];
  nodes = place 1 5 ∷ place 9 1 ∷ place 3 3 ∷ place 4 3 ∷ place 5 3 ∷ place 6 3 ∷ place 8 3 ∷ [];
  edges =
      silent_edge 0 Skip 2
      ∷ visible_edge 2 (Lock 0) 3
      ∷ visible_edge 3 (Create 0 1) 4
      ∷ visible_edge 4 (Join 0) 5
      ∷ visible_edge 5 (Call None 0 (Number (pos 2147483648) W64 ∷ [])) 6
      ∷ visible_edge 6 (Assign 0 (int 0)) 1
      ∷ [];
}

abbrev pub holding_program : Program
holding_program = record {
  funcs = graph_with called called_flow ∷ graph_with waited waited_flow ∷ graph_with holding_main holding_flow ∷ [];
  globals = [];
  mutexes = [] ∷ [];
  main = 2;
}

-- thread 1 with the mutex, which has started thread 2, and these frames on top of `main`
abbrev pub holding_frame : ℕ → Option ℕ → Frame
holding_frame node waits = record { func = 2; node = node; slots = pos 0 ∷ []; vars = Some 2 ∷ []; waits = waits }

abbrev pub waited_frame : ℕ → Frame
waited_frame node = record { func = 1; node = node; slots = pos 0 ∷ []; vars = []; waits = None }

abbrev pub holding_at : List Frame → ℕ → Config Frame
holding_at frames node = record { globals = []; owners = held; threads = frames ∷ (waited_frame node ∷ []) ∷ [] }

-- the lock and the start of thread 2, which owns nothing
abbrev pub starting_moves : List Move
starting_moves = by 1 (Do 0) ∷ by 1 (Do 1) ∷ by 1 (Do 2) ∷ []

abbrev pub started : Config Frame
started = holding_at (holding_frame 4 None ∷ []) 0

-- after the end of thread 2, before the join and after it
abbrev pub ended : Config Frame
ended = holding_at (holding_frame 4 None ∷ []) 1

abbrev pub joined : Config Frame
joined = holding_at (holding_frame 5 None ∷ []) 1

-- inside of the call, whose argument is above the greatest int
abbrev pub entered_frame : Frame
entered_frame = record { func = 0; node = 0; slots = pos 0 ∷ negsuc 2147483647 ∷ []; vars = []; waits = None }

abbrev pub entered : Config Frame
entered = holding_at (entered_frame ∷ holding_frame 5 (Some 4) ∷ []) 1
