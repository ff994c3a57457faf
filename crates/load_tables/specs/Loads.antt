-- What is said of a generated text and its eight edits.
use Rattle.std.specs.Prelude.{◌≡◌, ◌≤◌, ℕ}
use Rattle.std.specs.Arc.{arc_value}
use Rattle.c_source.specs.declared.source.Source.{Source}
use Rattle.c_check.specs.declared.fault.FrontFault.{FrontFault}
use Rattle.constraint_sys.specs.Table.{TableValue}
use Rattle.constraint_sys.specs.Turn.{Solving}
use Rattle.load_tables.specs.Ends.{IsFaultOf, IsSolution}
use Rattle.load_tables.specs.Tables.{Begins, Solves, Spends, text_at}
use Rattle.load_tables.specs.declared.loaded.Loaded.{Loaded}
use Rattle.load_tables.specs.declared.loaded.LoadStop.{LoadStop}
use Rattle.load_tables.specs.declared.loaded.LoadStop.TheVariants.{Spent, Refused, Memory}

-- text k has this source, and this table solves it, once the texts before it are solved
pub record IsSolvedAt (number functions k : ℕ) (source : Source) (table : TableValue) : Type 0 where
  pub start : Solving
  pub begun : Begins number functions k source start
  pub solved : Solves source.program start table
  pub solution : IsSolution source table

-- nine tables are solved, of which this is the last, and none has a breach
pub record IsLoaded (number functions : ℕ) (loaded : Loaded) : Type 0 where
  pub tables : loaded.tables ≡ 9
  pub breaches : loaded.breaches ≡ 0
  pub last : IsSolvedAt number functions 8 (arc_value loaded.source) loaded.table

-- one of the texts spends its budget, once those before it are solved
pub record IsSpent (number functions : ℕ) : Type 0 where
  pub k : ℕ
  pub within : k ≤ 8
  pub source : Source
  pub start : Solving
  pub begun : Begins number functions k source start
  pub spent : Spends source.program start

-- one of the texts has this fault first
pub record IsRefused (number functions : ℕ) (fault : FrontFault) : Type 0 where
  pub k : ℕ
  pub within : k ≤ 8
  pub fault_of_text : IsFaultOf (text_at number functions k) fault

-- why not all nine are solved
abbrev pub Stops : ℕ → ℕ → LoadStop → Type 0
Stops number functions Spent = IsSpent number functions
Stops number functions (Refused fault) = IsRefused number functions fault
Stops number functions Memory = Unit {0}
