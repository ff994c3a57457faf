-- Along every run of trees there is a run of graphs that stands for it.
--
-- A reader should check: that nothing is asked but a well-made unit and a run of its trees, and that
-- the moves up to each choice lead to a configuration that stands for the trees right after it.
use Rattle.std.specs.Prelude.{◌≡◌, ℕ, List, ◌++◌, Some}
use Rattle.gob_tree.specs.WellMade.{IsWellMade}
use Rattle.gob_tree.specs.declared.unit.Unit.{Unit as TranslationUnit}
use Rattle.c_meaning.specs.declared.config.Choice.{Choice}
use Rattle.c_meaning.specs.Config.{Config}
use Rattle.c_meaning.specs.Graph.{marked_of, program_of}
use Rattle.c_meaning.specs.GraphStep.{Label}
use Rattle.c_meaning.specs.Run.{IsRun}
use Rattle.c_meaning.specs.Tree.{Frame}
use Rattle.c_meaning.specs.Walk.{IsGraphRun, Move, Stands, Walked, graph_run, labels_by, moves_of, walk_of}

-- The moves that go with a run of trees: they are a run of the graphs, which ends in a configuration
-- that stands for that of the trees; and the walk of each thread is its labels among them, and no
-- other.
pub record RunsTogether (unit : TranslationUnit) (choices : List Choice) (last : Config Frame) : Type 0 where
  pub walked : Walked
  pub walk : graph_run (marked_of unit) choices ≡ Some walked
  pub moves : moves_of unit choices ≡ Some walked.moves
  pub run : IsGraphRun (program_of unit) walked.moves walked.config
  pub stands : Stands unit last walked.config
  pub labels : (t : ℕ) → walk_of unit choices t ≡ Some (labels_by t walked.moves)
  pub alone : (t : ℕ) (labels : List Label) → walk_of unit choices t ≡ Some labels → labels ≡ labels_by t walked.moves

abbrev pub RunsStayTogether : Type 0
RunsStayTogether = (unit : TranslationUnit) (choices : List Choice) (last : Config Frame) → IsWellMade unit → IsRun unit choices last → RunsTogether unit choices last

-- A moment of a run: the moves of a part of the choices come first among those of the whole run, and
-- lead to a configuration that stands for the trees there.
pub record MomentTogether (unit : TranslationUnit) (first : List Choice) (middle : Config Frame) (moves : List Move) : Type 0 where
  pub walked : Walked
  pub walk : graph_run (marked_of unit) first ≡ Some walked
  pub run : IsGraphRun (program_of unit) walked.moves walked.config
  pub stands : Stands unit middle walked.config
  pub more : List Move
  pub begins : moves ≡ walked.moves ++ more

-- so it is after each choice of each run
abbrev pub MomentsStand : Type 0
MomentsStand =
    (unit : TranslationUnit) (first later : List Choice) (middle last : Config Frame) (moves : List Move) → IsWellMade unit
    → IsRun unit (first ++ later) last → IsRun unit first middle → moves_of unit (first ++ later) ≡ Some moves
    → MomentTogether unit first middle moves
