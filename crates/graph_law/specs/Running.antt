-- The moves that go with a run of trees.
use Rattle.std.specs.Prelude.{◌≡◌, List, Some}
use Rattle.gob_tree.specs.declared.unit.Unit.{Unit as TranslationUnit}
use Rattle.c_meaning.specs.declared.config.Choice.{Choice}
use Rattle.c_meaning.specs.Config.{Config}
use Rattle.c_meaning.specs.Graph.{program_of}
use Rattle.c_meaning.specs.GraphStep as Graph
use Rattle.c_meaning.specs.Walk.{Move, IsGraphRun, moves_of}

-- the moves that go with a run of a unit's trees are a run of its graphs
abbrev pub MovesAreRuns : Type 0
MovesAreRuns =
    (unit : TranslationUnit) (choices : List Choice) (moves : List Move) → moves_of unit choices ≡ Some moves
    → (last : Config Graph.Frame) × IsGraphRun (program_of unit) moves last
