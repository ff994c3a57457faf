-- Runs: finite lists of choices, each of which moves.
use Rattle.std.specs.Prelude.{◌≡◌, List, [], ◌∷◌, Option, None, Some}
use Rattle.gob_tree.specs.declared.unit.Unit.{Unit as TranslationUnit}
use Rattle.c_meaning.specs.declared.config.Choice.{Choice}
use Rattle.c_meaning.specs.declared.config.Stepped.{Stepped}
use Rattle.c_meaning.specs.Config.{Config}
use Rattle.c_meaning.specs.Tree.{Frame, TreeStep, MovesTo, IsBlocked, IsFaulted, IsEnded, HasNoThread, tree_step, word_of, after_step, first_tree}

abbrev pub chosen : TranslationUnit → Config Frame → Choice → TreeStep
chosen unit c choice = tree_step unit c choice.thread choice.input

-- goes on from the next configuration, where there is one
abbrev pub if_moved : TreeStep → (Config Frame → Option (Config Frame)) → Option (Config Frame)
if_moved (MovesTo next) go = go next
if_moved IsBlocked go = None
if_moved IsFaulted go = None
if_moved IsEnded go = None
if_moved HasNoThread go = None

-- the configuration after a list of choices from this one; none where one of them doesn't move
abbrev pub moved_from : TranslationUnit → Config Frame → List Choice → Option (Config Frame)
moved_from unit c [] = Some c
moved_from unit c (choice ∷ choices) = if_moved (chosen unit c choice) (λ next. moved_from unit next choices)

-- the choices are a run, and it ends in this configuration
abbrev pub IsRun : TranslationUnit → List Choice → Config Frame → Type 0
IsRun unit choices last = moved_from unit (first_tree unit) choices ≡ Some last

-- what becomes of a list of choices of which some may not move: a word for each, and the
-- configuration in the end
abbrev pub words_of : TranslationUnit → Config Frame → List Choice → List Stepped
words_of unit c [] = []
words_of unit c (choice ∷ choices) =
    word_of (chosen unit c choice) ∷ words_of unit (after_step c (chosen unit c choice)) choices

abbrev pub left_by : TranslationUnit → Config Frame → List Choice → Config Frame
left_by unit c [] = c
left_by unit c (choice ∷ choices) = left_by unit (after_step c (chosen unit c choice)) choices
