-- Tables are true of runs: what a post-solution knows it knows at each moment of each run.
use Rattle.std.specs.Prelude.{◌≡◌, ℕ, ℤ, List, [], Some, slice_get}
use Rattle.gob_tree.specs.Formed.{IsFormed}
use Rattle.gob_tree.specs.declared.graph.Program.{Program}
use Rattle.c_meaning.specs.Config.{Config, thread_at}
use Rattle.c_meaning.specs.GraphStep.{Frame, Label, after_label, first_graph}
use Rattle.c_meaning.specs.Walk.{Move, IsGraphRun}
use Rattle.constraint_sys.specs.declared.unknown.Key.{Key}
use Rattle.constraint_sys.specs.declared.unknown.Unknown.{Unknown}
use Rattle.constraint_sys.specs.PostSolution.{IsPostSolution}
use Rattle.constraint_sys.specs.Sound.{IsShaped}
use Rattle.constraint_sys.specs.Table.{TableValue, slots_at, state_at}
use Rattle.constraint_sys.specs.Turn.{Solving, Replays, initial_of}
use Rattle.action_law.specs.Described.{DescribesSlots}
use Rattle.run_law.specs.Known.{IsKnown}

-- the moment at which a program starts
abbrev pub FirstIsKnown : Type 0
FirstIsKnown = (p : Program) (t : TableValue) → IsFormed p → IsPostSolution p t → IsKnown p t (first_graph p)

-- whatever a thread takes
abbrev pub StepsKeepKnown : Type 0
StepsKeepKnown =
    (p : Program) (t : TableValue) (c next : Config Frame) (thread : ℕ) (input : ℤ) (label : Label) → IsFormed p → IsShaped p t → IsPostSolution p t
    → IsKnown p t c → after_label p c thread input label ≡ Some next → IsKnown p t next

-- at the end of each run of the graphs, so at each of its moments, since its beginnings are runs
abbrev pub RunsAreKnown : Type 0
RunsAreKnown =
    (p : Program) (t : TableValue) (moves : List Move) (last : Config Frame) → IsFormed p → IsShaped p t → IsPostSolution p t
    → IsGraphRun p moves last → IsKnown p t last

-- so is the table with which the solver ends: the one that a replay from the initial table gives,
-- once nothing is dirty
abbrev pub SolvedTablesAreTrue : Type 0
SolvedTablesAreTrue =
    (p : Program) (trace : List Unknown) (solved : Solving) (moves : List Move) (last : Config Frame) → IsFormed p → Replays p (initial_of p) trace solved → solved.dirty ≡ []
    → IsGraphRun p moves last → IsKnown p solved.table last

-- so each frame of each thread has its slots in the intervals that the table shows at its node, in
-- some context
abbrev pub FramesAreDescribed : Type 0
FramesAreDescribed =
    (p : Program) (t : TableValue) (moves : List Move) (last : Config Frame) (thread : ℕ) (frames : List Frame) (i : ℕ) (frame : Frame) → IsFormed p → IsShaped p t → IsPostSolution p t
    → IsGraphRun p moves last → thread_at last.threads thread ≡ Some frames → slice_get frames i ≡ Some frame
    → (key : Key) × DescribesSlots (slots_at p frame.func) (state_at p t frame.func key frame.node) frame.slots
