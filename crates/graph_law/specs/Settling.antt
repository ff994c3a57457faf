-- The silent edges that a thread does while one can be done.
use Rattle.std.specs.Prelude.{◌≡◌, ℕ, pos, List, ◌∷◌, ◌++◌, map, Some}
use Rattle.gob_tree.specs.declared.unit.Unit.{Unit as TranslationUnit}
use Rattle.c_meaning.specs.Config.{Config, thread_at, with_thread}
use Rattle.c_meaning.specs.Graph.{MarkedProgram, marked_of}
use Rattle.c_meaning.specs.GraphStep as Graph
use Rattle.c_meaning.specs.GraphStep.{Do}
use Rattle.c_meaning.specs.Walk.{Settled, Walked, moves_by, after_silent, settled_from, marked_edges_at}

-- where a frame settles: the edges, and the node and slots that they lead to
abbrev pub settled_frame : MarkedProgram → Graph.Frame → Settled
settled_frame m frame =
    settled_from (Graph.func_slots m.program frame.func) (marked_edges_at m frame.func) (record { node = frame.node; slots = frame.slots })

-- the configuration where a thread's topmost frame is there, over these frames
abbrev pub with_settled : MarkedProgram → Config Graph.Frame → ℕ → Graph.Frame → List Graph.Frame → Config Graph.Frame
with_settled m c t frame below =
    record c {
      threads = with_thread c.threads t (record frame { node = (settled_frame m frame).1.node; slots = (settled_frame m frame).1.slots } ∷ below);
    }

-- A thread can always do its silent edges one after another, and they change nothing but the node
-- and the slots of its topmost frame.
abbrev pub SilentEdgesAreMoves : Type 0
SilentEdgesAreMoves =
    (unit : TranslationUnit) (w : Walked) (t : ℕ) (frame : Graph.Frame) (below : List Graph.Frame)
    → thread_at w.config.threads t ≡ Some (frame ∷ below)
    → after_silent (marked_of unit) t w
    ≡ Some (record {
      moves = w.moves ++ moves_by t (pos 0) (map Do (settled_frame (marked_of unit) frame).0);
      config = with_settled (marked_of unit) w.config t frame below;
    })
