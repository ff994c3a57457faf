-- The globals keep to their widths.
use Rattle.std.specs.Prelude.{ℤ, List, [], ◌∷◌, IsTrue}
use Rattle.gob_tree.specs.Widths.{fits}
use Rattle.gob_tree.specs.WellMade.{IsWellMade}
use Rattle.gob_tree.specs.declared.unit.GlobalDecl.{GlobalDecl}
use Rattle.gob_tree.specs.declared.unit.Unit.{Unit as TranslationUnit}
use Rattle.c_meaning.specs.declared.config.Choice.{Choice}
use Rattle.c_meaning.specs.Config.{Config}
use Rattle.c_meaning.specs.Tree.{Frame}
use Rattle.c_meaning.specs.Run.{IsRun}

-- each global has a value, which fits its declared width
abbrev pub FitEach : List GlobalDecl → List ℤ → Type 0
FitEach [] [] = Unit {0}
FitEach [] (n ∷ ns) = ⊥
FitEach (g ∷ gs) [] = ⊥
FitEach (g ∷ gs) (n ∷ ns) = IsTrue (fits g.width n) × FitEach gs ns

-- at the end of each run of a well-made unit, so after each of its choices
abbrev pub GlobalsFit : Type 0
GlobalsFit =
    (unit : TranslationUnit) (choices : List Choice) (last : Config Frame) → IsWellMade unit → IsRun unit choices last
    → FitEach unit.globals last.globals
