-- The first moment of a run.
use Rattle.std.specs.Prelude.{◌≡◌, [], Some}
use Rattle.gob_tree.specs.WellMade.{IsWellMade}
use Rattle.gob_tree.specs.declared.unit.Unit.{Unit as TranslationUnit}
use Rattle.c_meaning.specs.Tree.{first_tree}
use Rattle.c_meaning.specs.Graph.{marked_of}
use Rattle.c_meaning.specs.Walk.{Walked, graph_run, Stands}

-- before the first choice of a run of a well-made unit, the walk is there, and its configuration
-- stands for that of the trees
abbrev pub FirstStands : Type 0
FirstStands =
    (unit : TranslationUnit) → IsWellMade unit
    → (w : Walked) × (graph_run (marked_of unit) [] ≡ Some w) × Stands unit (first_tree unit) w.config
