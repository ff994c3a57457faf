-- The nine tables of a load: that of a generated text, and those of its eight edits.
--
-- A reader should check: that the first is solved from its initial table, and each later one from what
-- the solved table of the text before it leaves.
use Rattle.std.specs.Prelude.{◌≡◌, ◌≢◌, ◌≤◌, ℕ, suc, List, [], length}
use Rattle.gob_tree.specs.declared.graph.Program.{Program}
use Rattle.gen_load.specs.Drawing.{choices}
use Rattle.gen_load.specs.Generated.{after_edits, text_of}
use Rattle.c_source.specs.declared.source.Source.{Source}
use Rattle.c_check.specs.Front.{IsSourceOf}
use Rattle.constraint_sys.specs.Carry.{Carries}
use Rattle.constraint_sys.specs.Table.{TableValue}
use Rattle.constraint_sys.specs.Turn.{Replays, Solving, initial_of}
use Rattle.constraint_sys.specs.declared.unknown.Unknown.{Unknown}

-- text 0 is the generated one, and text k what the first k edits make of it
abbrev pub text_at : ℕ → ℕ → ℕ → List ℕ
text_at number functions k = text_of functions (after_edits functions (choices number functions) k)

-- at most 100,000 recorded turns lead from the start to the table, in which nothing is left to do
pub record Solves (p : Program) (start : Solving) (table : TableValue) : Type 0 where
  pub trace : List Unknown
  pub replayed : Replays p start trace (record { table = table; dirty = [] })
  pub within_budget : length trace ≤ 100000

-- exactly 100,000 turns from the start leave something to do
pub record Spends (p : Program) (start : Solving) : Type 0 where
  pub trace : List Unknown
  pub left : Solving
  pub replayed : Replays p start trace left
  pub whole_budget : length trace ≡ 100000
  pub dirty : left.dirty ≢ []

-- The solving of text k, with this source, begins there: that of text 0 at the initial table, and that
-- of each later one at what the solved table of the text before it leaves.
pub data Begins (number functions : ℕ) : ℕ → Source → Solving → Type 0 where
  generated : {source : Source} → IsSourceOf (text_at number functions 0) source → Begins number functions 0 source (initial_of source.program)
  edited : {k : ℕ} {before after : Source} {first start : Solving} {table : TableValue} → Begins number functions k before first → Solves before.program first table
      → IsSourceOf (text_at number functions (suc k)) after → Carries before.program after.program table start → Begins number functions (suc k) after start
