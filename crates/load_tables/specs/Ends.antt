-- How the solving of one text ends.
use Rattle.std.specs.Prelude.{◌≡◌, ◌≢◌, ℕ, List}
use Rattle.std.specs.Arc.{arc_value}
use Rattle.gob_tree.specs.Formed.{IsFormed}
use Rattle.c_source.specs.declared.source.Source.{Source}
use Rattle.c_check.specs.Front.{IsFirstOf, IsSourceOf}
use Rattle.c_check.specs.declared.fault.FrontFault.{FrontFault}
use Rattle.c_check.specs.declared.fault.FrontKind.TheVariants.{Memory as WantOfMemory}
use Rattle.constraint_sys.specs.Carry.{Carries}
use Rattle.constraint_sys.specs.PostSolution.{IsPostSolution}
use Rattle.constraint_sys.specs.Sound.{IsShaped}
use Rattle.constraint_sys.specs.Table.{TableValue}
use Rattle.constraint_sys.specs.Turn.{Solving, initial_of}
use Rattle.td_solver.specs.declared.job.Solved.{Solved}
use Rattle.load_tables.specs.Tables.{Solves, Spends}
use Rattle.load_tables.specs.declared.loaded.LoadStop.{LoadStop}
use Rattle.load_tables.specs.declared.loaded.LoadStop.TheVariants.{Spent, Refused, Memory}

-- the first fault of a text, other than want of memory
pub record IsFaultOf (text : List ℕ) (fault : FrontFault) : Type 0 where
  pub first : IsFirstOf text fault
  pub of_the_text : fault.kind ≢ WantOfMemory

-- the table is a post-solution of the source's program
pub record IsSolution (source : Source) (table : TableValue) : Type 0 where
  pub formed : IsFormed source.program
  pub shaped : IsShaped source.program table
  pub post_solution : IsPostSolution source.program table

-- ---- where the solving of a source begins

abbrev pub Beginning : Type 1
Beginning = Source → Solving → Type 0

-- at the initial table
abbrev pub IsInitial : Beginning
IsInitial source start = start ≡ initial_of source.program

-- at what a table of another source leaves
abbrev pub IsLeftBy : Source → TableValue → Beginning
IsLeftBy before table after start = Carries before.program after.program table start

-- ---- how it ends

-- the table, which is of this source, solves it from this start
pub record SolvesFrom (source : Source) (start : Solving) (end : Solved) : Type 0 where
  pub source_is : arc_value end.source ≡ source
  pub solved : Solves source.program start end.table
  pub solution : IsSolution source end.table

-- the text's source is solved by the table, from where it begins
pub record IsSolvedText (begins : Beginning) (text : List ℕ) (source : Source) (table : TableValue) : Type 0 where
  pub source_of_text : IsSourceOf text source
  pub start : Solving
  pub begun : begins source start
  pub solved : Solves source.program start table
  pub solution : IsSolution source table

-- the budget of the text's source is spent, from where it begins
pub record IsSpentText (begins : Beginning) (text : List ℕ) : Type 0 where
  pub source : Source
  pub source_of_text : IsSourceOf text source
  pub start : Solving
  pub begun : begins source start
  pub spent : Spends source.program start

-- why a text isn't solved
abbrev pub StopsText : Beginning → List ℕ → LoadStop → Type 0
StopsText begins text Spent = IsSpentText begins text
StopsText begins text (Refused fault) = IsFaultOf text fault
StopsText begins text Memory = Unit {0}
