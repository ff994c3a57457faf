-- A choice keeps trees and graphs together.
use Rattle.std.specs.Prelude.{◌≡◌, [], Some}
use Rattle.gob_tree.specs.WellMade.{IsWellMade}
use Rattle.gob_tree.specs.declared.unit.Unit.{Unit as TranslationUnit}
use Rattle.c_meaning.specs.declared.config.Choice.{Choice}
use Rattle.c_meaning.specs.Config.{Config}
use Rattle.c_meaning.specs.Graph.{marked_of}
use Rattle.c_meaning.specs.GraphStep as Graph
use Rattle.c_meaning.specs.Run.{chosen}
use Rattle.c_meaning.specs.Tree as Tree
use Rattle.c_meaning.specs.Tree.{MovesTo, first_tree}
use Rattle.c_meaning.specs.Walk.{Stands, Walked, after_choice, graph_run}
use Rattle.step_law.specs.Together.{Together}

-- where they are together, the graphs stand for the trees
abbrev pub TogetherStands : Type 0
TogetherStands = (unit : TranslationUnit) (t : Config Tree.Frame) (g : Config Graph.Frame) → Together unit t g → Stands unit t g

-- they are together before the first choice
abbrev pub FirstTogether : Type 0
FirstTogether =
    (unit : TranslationUnit) → IsWellMade unit
    → (w : Walked) × (graph_run (marked_of unit) [] ≡ Some w) × Together unit (first_tree unit) w.config

-- where a choice moves the trees, the graphs make it too, and are together with them again
abbrev pub ChoicesKeepTogether : Type 0
ChoicesKeepTogether =
    (unit : TranslationUnit) (c : Config Tree.Frame) (w : Walked) (choice : Choice) (next : Config Tree.Frame) → IsWellMade unit
    → Together unit c w.config → chosen unit c choice ≡ MovesTo next
    → (w' : Walked) × (after_choice (marked_of unit) choice w ≡ Some w') × Together unit next w'.config
