-- What `load` answers for a number and so many functions.
use Rattle.std.specs.Prelude.{◌≡◌, ◌<◌, ◌≤◌, ℕ, List, ◌++◌, codes, decimal, Ok as Good, Err as Bad}
use Rattle.gob_tree.specs.declared.graph.Program.{Program}
use Rattle.c_source.specs.declared.source.Source.{Source}
use Rattle.constraint_sys.specs.Table.{TableValue}
use Rattle.edition_core.specs.Printed.{printed_globals}
use Rattle.load_tables.specs.Loads.{IsRefused, IsSolvedAt, IsSpent}
use Rattle.load_tables.specs.declared.solving.TheConstants.{TURNS}
use Rattle.gobpie_main.specs.Fault.{Answer}
use Rattle.gobpie_main.specs.declared.fault.Fault.TheVariants.{Usage, ReadFault, Refused, BadLine, Spent, Memory}

-- at least one function, and at most 120
pub record IsFewFunctions (functions : ℕ) : Type 0 where
  pub some : 0 < functions
  pub few : functions ≤ 120

-- `functions N edits 8 published T breaches B`
abbrev pub counts_line : ℕ → ℕ → ℕ → List ℕ
counts_line functions tables breaches =
    codes "functions " ++ decimal functions ++ codes " edits 8 published " ++ decimal tables
    ++ codes " breaches " ++ decimal breaches ++ codes "\n"

-- the counts of nine tables without a breach, and the global lines of the last
abbrev pub load_lines : ℕ → Program → TableValue → List ℕ
load_lines functions p t = counts_line functions 9 0 ++ printed_globals p t

-- the bytes are the lines of nine tables, the last of which is that of the eighth edit
pub record Loads (number functions : ℕ) (bytes : List ℕ) : Type 0 where
  pub source : Source
  pub table : TableValue
  pub last : IsSolvedAt number functions 8 source table
  pub bytes_are : bytes ≡ load_lines functions source.program table

-- all that may be answered: a refusal tells the first fault of one of the nine texts
abbrev pub AnswersLoad : ℕ → ℕ → Answer → Type 0
AnswersLoad number functions (Good lines) = Loads number functions lines.items
AnswersLoad number functions (Bad Usage) = ⊥
AnswersLoad number functions (Bad ReadFault) = ⊥
AnswersLoad number functions (Bad (Refused fault)) = IsRefused number functions fault
AnswersLoad number functions (Bad (BadLine line)) = ⊥
AnswersLoad number functions (Bad (Spent turns)) = (turns ≡ TURNS) × IsSpent number functions
AnswersLoad number functions (Bad Memory) = Unit {0}
