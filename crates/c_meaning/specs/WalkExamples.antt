-- Walks of small programs, and a tree and a graph at the same moment, by hand.
use Rattle.std.specs.Prelude.{ℕ, ℤ, pos, List, [], ◌∷◌, Option, None, Some}
use Rattle.gob_tree.specs.declared.expr.Width.TheVariants.{W32}
use Rattle.gob_tree.specs.declared.expr.BinOp.TheVariants.{Add, And}
use Rattle.gob_tree.specs.declared.expr.Expr.{Local, Global, Binary, Call}
use Rattle.gob_tree.specs.declared.stmt.Stmt.{Stmt}
use Rattle.gob_tree.specs.declared.graph.Action.TheVariants.{Assign, Read, Write, Create, Call as CallEdge, Skip}
use Rattle.c_meaning.specs.declared.config.Choice.{Choice}
use Rattle.c_meaning.specs.declared.config.Todo.TheVariants.{Stmt as Doing}
use Rattle.c_meaning.specs.Config.{Config}
use Rattle.c_meaning.specs.Tree.{Frame}
use Rattle.c_meaning.specs.Graph.{FlowGraph, graph_with, MarkedProgram}
use Rattle.c_meaning.specs.GraphStep.{Label, Do, Enter, Leave}
use Rattle.c_meaning.specs.GraphStep as Graph
use Rattle.c_meaning.specs.Walk.{Move, Walked}
use Rattle.c_meaning.specs.Samples.{place, at, int, global, returns, choice}
use Rattle.c_meaning.specs.StepExamples.{racing_main, racing_thread, calling_main, called}
use Rattle.c_meaning.specs.GraphExamples.{silent_edge, visible_edge, joining}

-- ---- walks

-- a move without an input
abbrev pub by : ℕ → Label → Move
by t label = record { thread = t; label = label; input = pos 0 }

abbrev pub racing_thread_flow : FlowGraph
racing_thread_flow = record {
  named = 1;
  temps = [];
  nodes = place 2 7 ∷ place 2 41 ∷ place 2 20 ∷ place 2 27 ∷ [];
  edges = silent_edge 0 Skip 2 ∷ visible_edge 2 (Write 0 (int 1)) 3 ∷ visible_edge 3 Skip 1 ∷ [];
}

abbrev pub racing_main_flow : FlowGraph
racing_main_flow = record {
  named = 2;
  temps = W32 ∷ W32 ∷ [];
  nodes = place 1 5 ∷ place 9 1 ∷ place 4 3 ∷ place 5 3 ∷ place 6 3 ∷ place 7 3 ∷ place 6 3 ∷ place 6 3 ∷ [];
  edges =
      silent_edge 0 Skip 2
      ∷ visible_edge 2 Skip 3
      ∷ visible_edge 3 (Create 0 0) 4
      ∷ visible_edge 4 (Read 2 0) 6
      ∷ visible_edge 6 (Read 3 0) 7
      ∷ visible_edge 7 (Assign 1 (Binary Add (Local 2) (Local 3))) 5
      ∷ visible_edge 5 (Assign 0 (Local 1)) 1
      ∷ [];
}

abbrev pub racing_with : FlowGraph → FlowGraph → MarkedProgram
racing_with thread main = record {
  program = record {
    funcs = graph_with racing_thread thread ∷ graph_with racing_main main ∷ [];
    globals = global (pos 0) ∷ [];
    mutexes = [];
    main = 1;
  };
  edges = thread.edges ∷ main.edges ∷ [];
}

abbrev pub racing_marked : MarkedProgram
racing_marked = racing_with racing_thread_flow racing_main_flow

-- how far the two threads have got, where g has this value
abbrev pub racing_at : ℤ → ℕ → List ℤ → ℕ → List Move → Walked
racing_at g main_node main_slots thread_node moves = record {
  moves = moves;
  config = record {
    globals = g ∷ [];
    owners = [];
    threads =
        (record { func = 1; node = main_node; slots = main_slots; vars = Some 2 ∷ []; waits = None } ∷ [])
        ∷ (record { func = 0; node = thread_node; slots = pos 0 ∷ []; vars = []; waits = None } ∷ [])
        ∷ [];
  };
}

abbrev pub racing_first_moves : List Move
racing_first_moves = by 1 (Do 0) ∷ by 1 (Do 1) ∷ by 1 (Do 2) ∷ by 2 (Do 0) ∷ by 1 (Do 3) ∷ []

abbrev pub racing_walk : List Label
racing_walk = Do 0 ∷ Do 1 ∷ Do 2 ∷ Do 3 ∷ Do 4 ∷ Do 5 ∷ []

abbrev pub racing_thread_walk : List Label
racing_thread_walk = Do 0 ∷ Do 1 ∷ []

abbrev pub joining_with : FlowGraph → MarkedProgram
joining_with main = record {
  program = record { funcs = graph_with joining main ∷ []; globals = global (pos 5) ∷ []; mutexes = []; main = 0 };
  edges = main.edges ∷ [];
}

abbrev pub joining_at : ℕ → List ℤ → List Move → Walked
joining_at node slots moves = record {
  moves = moves;
  config = record {
    globals = pos 5 ∷ [];
    owners = [];
    threads = (record { func = 0; node = node; slots = slots; vars = []; waits = None } ∷ []) ∷ [];
  };
}

-- the guard of 1 and the assignment after the read are silent, and lead to the join node
abbrev pub joining_choices : List Choice
joining_choices = choice 1 0 ∷ choice 1 0 ∷ choice 1 0 ∷ []

abbrev pub joining_walk : List Label
joining_walk = Do 0 ∷ Do 1 ∷ Do 4 ∷ Do 5 ∷ Do 6 ∷ Do 7 ∷ []

abbrev pub called_flow : FlowGraph
called_flow = record {
  named = 2;
  temps = [];
  nodes = place 1 5 ∷ place 1 30 ∷ place 1 16 ∷ [];
  edges = silent_edge 0 Skip 2 ∷ visible_edge 2 (Assign 0 (Binary Add (Local 1) (int 1))) 1 ∷ [];
}

abbrev pub calling_flow : FlowGraph
calling_flow = record {
  named = 2;
  temps = W32 ∷ [];
  nodes = place 1 5 ∷ place 9 1 ∷ place 3 3 ∷ place 8 3 ∷ place 3 3 ∷ [];
  edges =
      silent_edge 0 Skip 2
      ∷ visible_edge 2 (CallEdge (Some 2) 0 (int 1 ∷ [])) 4
      ∷ visible_edge 4 (Assign 1 (Local 2)) 3
      ∷ visible_edge 3 (Assign 0 (Local 1)) 1
      ∷ [];
}

abbrev pub calling_with : FlowGraph → FlowGraph → MarkedProgram
calling_with callee main = record {
  program = record { funcs = graph_with called callee ∷ graph_with calling_main main ∷ []; globals = []; mutexes = []; main = 1 };
  edges = callee.edges ∷ main.edges ∷ [];
}

abbrev pub calling_at : List Graph.Frame → List Move → Walked
calling_at frames moves = record { moves = moves; config = record { globals = []; owners = []; threads = frames ∷ [] } }

abbrev pub calling_frame : ℕ → List ℤ → Option ℕ → Graph.Frame
calling_frame node slots waits = record { func = 1; node = node; slots = slots; vars = []; waits = waits }

abbrev pub called_frame : Graph.Frame
called_frame = record { func = 0; node = 2; slots = pos 0 ∷ pos 1 ∷ []; vars = []; waits = None }

abbrev pub calling_walk : List Label
calling_walk = Do 0 ∷ Enter 1 ∷ Do 0 ∷ Do 1 ∷ Leave ∷ Do 2 ∷ []

-- ---- standing

-- the tree of `int x = 1 && g;` after g was read, and the graph at the join node
abbrev pub joining_tree : Config Frame
joining_tree = record {
  globals = pos 5 ∷ [];
  owners = [];
  threads = (record {
    func = 0;
    todo = Doing (at 2 3 (Stmt.Declare 1 (Some (Binary And (int 1) (Global 0 W32))))) ∷ Doing (returns (Local 1)) ∷ [];
    slots = pos 0 ∷ pos 0 ∷ [];
    vars = [];
    ins = pos 5 ∷ [];
  } ∷ []) ∷ [];
}

-- with these values of g and x
abbrev pub joining_moment_with : ℤ → ℤ → Config Graph.Frame
joining_moment_with g x = record (joining_at 6 (pos 0 ∷ x ∷ pos 1 ∷ pos 5 ∷ []) []).config { globals = g ∷ [] }

abbrev pub joining_moment : Config Graph.Frame
joining_moment = joining_moment_with (pos 5) (pos 0)

-- `int x = f(1);` inside of the call
abbrev pub calling_tree : Config Frame
calling_tree = record {
  globals = [];
  owners = [];
  threads =
      (record {
        func = 0;
        todo = Doing (at 1 16 (Stmt.Return (Some (Binary Add (Local 1) (int 1))))) ∷ [];
        slots = pos 0 ∷ pos 1 ∷ [];
        vars = [];
        ins = [];
      }
      ∷ record {
        func = 1;
        todo = Doing (at 3 3 (Stmt.Declare 1 (Some (Call 0 W32 (int 1 ∷ []))))) ∷ Doing (returns (Local 1)) ∷ [];
        slots = pos 0 ∷ pos 0 ∷ [];
        vars = [];
        ins = [];
      }
      ∷ [])
      ∷ [];
}

-- where the caller waits at this edge
abbrev pub calling_moment_at : Option ℕ → Config Graph.Frame
calling_moment_at edge = (calling_at (called_frame ∷ calling_frame 2 (pos 0 ∷ pos 0 ∷ pos 0 ∷ []) edge ∷ []) []).config

abbrev pub calling_moment : Config Graph.Frame
calling_moment = calling_moment_at (Some 1)

-- after `return 0;`, and a thread at this node
abbrev pub ended_tree : Config Frame
ended_tree = record { globals = []; owners = []; threads = [] ∷ [] }

abbrev pub ended_moment : ℕ → Config Graph.Frame
ended_moment node = record {
  globals = [];
  owners = [];
  threads = (record { func = 0; node = node; slots = pos 0 ∷ []; vars = []; waits = None } ∷ []) ∷ [];
}
