-- What `analyse` answers for a file under a budget of turns.
use Rattle.std.specs.Prelude.{◌≡◌, ◌≢◌, ◌⊎◌, ℕ, ◌≤◌, List, [], ◌++◌, length, codes, IsErrAnd, Ok as Good, Err as Bad}
use Rattle.gob_tree.specs.declared.graph.Program.{Program}
use Rattle.gob_outside.specs.Files.{FilesNow, IsTextOf}
use Rattle.c_meaning.specs.Config.{Config}
use Rattle.c_meaning.specs.Run.{IsRun}
use Rattle.c_meaning.specs.Tree.{Frame}
use Rattle.c_meaning.specs.declared.config.Choice.{Choice}
use Rattle.c_source.specs.declared.source.Source.{Source}
use Rattle.c_check.specs.Front.{IsSourceOf}
use Rattle.constraint_sys.specs.PostSolution.{IsPostSolution}
use Rattle.constraint_sys.specs.Table.{TableValue}
use Rattle.constraint_sys.specs.Turn.{Replays, Solving, initial_of}
use Rattle.constraint_sys.specs.declared.unknown.Unknown.{Unknown}
use Rattle.tree_law.specs.Laws.{IsShown}
use Rattle.edition_core.specs.Printed.{printed}
use Rattle.gobpie_main.specs.Fault.{Answer}
use Rattle.gobpie_main.specs.Loading.{IsLoadFault, IsRefusedBy}
use Rattle.gobpie_main.specs.declared.fault.Fault.TheVariants.{Usage, ReadFault, Refused, BadLine, Spent, Memory}

-- whatever the schedule and the inputs, the table shows each moment of each run of the source's text
abbrev pub ShowsRuns : Source → TableValue → Type 0
ShowsRuns source table =
    (choices : List Choice) (c : Config Frame) → IsRun source.unit choices c
    → IsShown source.unit table choices c

-- The bytes are the printed table of a post-solution of the source's program, which at most `budget`
-- recorded turns give from the initial table and in which nothing is left to do, and `complete`. The
-- table is true of every run.
pub record Completes (source : Source) (budget : ℕ) (bytes : List ℕ) : Type 0 where
  pub trace : List Unknown
  pub table : TableValue
  pub replayed : Replays source.program (initial_of source.program) trace
      (record { table = table; dirty = [] })
  pub within_budget : length trace ≤ budget
  pub post_solution : IsPostSolution source.program table
  pub shows_runs : ShowsRuns source table
  pub bytes_are : bytes ≡ printed source.program table ++ codes "complete\n"

-- exactly `budget` turns from the initial table leave something dirty
pub record Spends (p : Program) (budget : ℕ) : Type 0 where
  pub trace : List Unknown
  pub left : Solving
  pub replayed : Replays p (initial_of p) trace left
  pub whole_budget : length trace ≡ budget
  pub dirty : left.dirty ≢ []

-- the text has a source, of whose program the bytes print the solved table
abbrev pub TextCompletes : List ℕ → ℕ → List ℕ → Type 0
TextCompletes text budget bytes =
    (source : Source) × IsSourceOf text source × Completes source budget bytes

abbrev pub TextSpends : List ℕ → ℕ → Type 0
TextSpends text budget = (source : Source) × IsSourceOf text source × Spends source.program budget

-- all that may be answered of a text
abbrev pub IsAnalysisOf : List ℕ → ℕ → Answer → Type 0
IsAnalysisOf text budget (Good lines) = TextCompletes text budget lines.items
IsAnalysisOf text budget (Bad Usage) = ⊥
IsAnalysisOf text budget (Bad ReadFault) = ⊥
IsAnalysisOf text budget (Bad (Refused fault)) = IsRefusedBy text fault
IsAnalysisOf text budget (Bad (BadLine line)) = ⊥
IsAnalysisOf text budget (Bad (Spent turns)) = (turns ≡ budget) × TextSpends text budget
IsAnalysisOf text budget (Bad Memory) = Unit {0}

-- the file wasn't loaded; or the answer is of a text, which is the file's own where the files tell it
abbrev pub AnswersAnalyse : List ℕ → ℕ → Answer → FilesNow → FilesNow → Type 0
AnswersAnalyse file budget answer before after =
    IsErrAnd answer (IsLoadFault file before after)
    ⊎ ((text : List ℕ) × IsTextOf before file text × IsAnalysisOf text budget answer)
