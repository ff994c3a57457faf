-- Runs walk over offered steps.
use Rattle.std.specs.Prelude.{◌≡◌, ℕ, List, Some}
use Rattle.gob_tree.specs.Formed.{IsFormed}
use Rattle.gob_tree.specs.declared.graph.Program.{Program}
use Rattle.c_meaning.specs.Config.{Config, thread_at}
use Rattle.c_meaning.specs.GraphStep.{Frame}
use Rattle.c_meaning.specs.Walk.{Move, IsGraphRun}
use Rattle.constraint_sys.specs.declared.unknown.Key.{Key}
use Rattle.constraint_sys.specs.PostSolution.{IsPostSolution}
use Rattle.constraint_sys.specs.Sound.{IsShaped}
use Rattle.constraint_sys.specs.Table.{TableValue}
use Rattle.arg_graph.specs.Following.{followed}
use Rattle.arg_graph.specs.Offered.{offered}
use Rattle.run_law.specs.Known.{KnowsThread}
use Rattle.walk_law.specs.Walked.{root_of, stack_of, walk_by}

-- At the end of each run of the graphs, so at each of its moments, each thread's walk follows steps
-- that are offered, from its root to the stack of its frames in contexts in which the table knows
-- them. So whatever a thread takes next is offered, since it is the end of a longer run.
abbrev pub WalksAreOffered : Type 0
WalksAreOffered =
    (p : Program) (t : TableValue) (moves : List Move) (last : Config Frame) (thread : ℕ) (frames : List Frame) → IsFormed p → IsShaped p t → IsPostSolution p t
    → IsGraphRun p moves last → thread_at last.threads thread ≡ Some frames
    → (keys : List Key) × KnowsThread p t last.owners thread frames keys
    × (followed (offered p t) (root_of frames) (walk_by thread moves) ≡ Some (stack_of frames keys))
