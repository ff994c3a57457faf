-- What contracts see of a source, and what every source keeps.
--
-- A reader should check: that the program is the unit's own, and that nothing is asked of the text.
use Rattle.std.specs.Prelude.{◌≡◌, ℕ, List}
use Rattle.gob_tree.specs.Formed.{IsFormed}
use Rattle.gob_tree.specs.WellMade.{IsWellMade}
use Rattle.gob_tree.specs.Words.{HasWordNames}
use Rattle.gob_tree.specs.declared.graph.Program.{Program}
use Rattle.gob_tree.specs.declared.unit.Unit.{Unit as TranslationUnit}
use Rattle.c_meaning.specs.Graph.{program_of}
use Rattle.graph_law.specs.Forming.{IsWithinSizes}

-- a text with a unit and a program
pub record Parts : Type 0 where
  pub text : List ℕ
  pub unit : TranslationUnit
  pub program : Program

-- What an analysis asks of a source: a well-made unit within the sizes, and that unit's own program,
-- which is formed and whose names are words.
pub record IsAnalysable (source : Parts) : Type 0 where
  pub made : IsWellMade source.unit
  pub sizes : IsWithinSizes source.unit
  pub program : source.program ≡ program_of source.unit
  pub formed : IsFormed source.program
  pub names : HasWordNames source.program
