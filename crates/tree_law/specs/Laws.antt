-- What a table shows is true of every run of a unit's trees.
--
-- A reader should check: that beside the run nothing is asked but a well-made unit of a size that an
-- analysis takes, and a table that is a post-solution of its program.
use Rattle.std.specs.Prelude.{◌≡◌, ℕ, ◌<◌, List, Some, IsSomeAnd, length}
use Rattle.gob_tree.specs.WellMade.{IsWellMade}
use Rattle.gob_tree.specs.declared.unit.Unit.{Unit as TranslationUnit}
use Rattle.interval_dom.specs.Bounds.{Describes}
use Rattle.c_meaning.specs.declared.config.Choice.{Choice}
use Rattle.c_meaning.specs.Config.{Config, thread_at, global_at}
use Rattle.c_meaning.specs.Graph.{program_of}
use Rattle.c_meaning.specs.Run.{IsRun}
use Rattle.c_meaning.specs.Tree.{Frame}
use Rattle.c_meaning.specs.Walk.{Stands, Walked, labels_by, moves_of, walk_of}
use Rattle.graph_law.specs.Forming.{IsWithinSizes}
use Rattle.constraint_sys.specs.PostSolution.{IsPostSolution}
use Rattle.constraint_sys.specs.Sound.{IsShaped}
use Rattle.constraint_sys.specs.Table.{TableValue}
use Rattle.constraint_sys.specs.Transfer.{number_at}
use Rattle.tree_law.specs.Shown.{ShowsThread}

-- A configuration at the end of a run is shown: moves go with the run, among which each thread's
-- labels are its walk, and their configuration stands for it; each global is in its interval, and each
-- thread is shown.
pub record IsShown (unit : TranslationUnit) (t : TableValue) (choices : List Choice) (c : Config Frame) : Type 0 where
  pub walked : Walked
  pub moves : moves_of unit choices ≡ Some walked.moves
  pub walks : (thread : ℕ) → walk_of unit choices thread ≡ Some (labels_by thread walked.moves)
  pub stands : Stands unit c walked.config
  pub globals : (g : ℕ) → g < length unit.globals → IsSomeAnd (number_at t g) (λ v. Describes v (global_at c g))
  pub threads : (thread : ℕ) (frames : List Frame) → thread_at c.threads thread ≡ Some frames → ShowsThread unit t c walked thread frames

-- Every run of a well-made unit of such a size, which each of its moments ends: whatever the schedule
-- and the inputs, every shaped post-solution of the unit's program shows it.
abbrev pub TreesAreShown : Type 0
TreesAreShown =
    (unit : TranslationUnit) (t : TableValue) (choices : List Choice) (c : Config Frame) → IsWellMade unit → IsWithinSizes unit
    → IsShaped (program_of unit) t → IsPostSolution (program_of unit) t → IsRun unit choices c → IsShown unit t choices c
