-- From one text to the next.
use Rattle.std.proofs.Common.{◌≡◌, ◌≢◌, ◌<◌, ℕ, suc, List, arith, refl, subst, sym}
use Rattle.std.specs.Arc.{arc_value}
use Rattle.c_source.specs.declared.source.Source.{Source}
use Rattle.c_check.specs.Front.{IsSourceOf}
use Rattle.c_check.specs.declared.fault.FrontFault.{FrontFault}
use Rattle.constraint_sys.specs.Table.{TableValue}
use Rattle.constraint_sys.specs.Turn.{Solving}
use Rattle.td_solver.specs.declared.job.Solved.{Solved}
use Rattle.load_tables.specs.Ends.{Beginning, IsFaultOf, IsInitial, IsLeftBy, IsSolution, IsSolvedText, SolvesFrom, StopsText}
use Rattle.load_tables.specs.Loads.{IsSolvedAt, Stops}
use Rattle.load_tables.specs.Tables.{Begins, Solves, Spends, edited, generated, text_at}
use Rattle.load_tables.specs.declared.loaded.LoadStop.{LoadStop}
use Rattle.load_tables.specs.declared.loaded.LoadStop.TheVariants.{Spent, Refused, Memory}

-- ---- one text

-- what solves a source, solves the text that has it
pub solved_text : (begins : Beginning) (text : List ℕ) (source : Source) (start : Solving) (end : Solved) → IsSourceOf text source → begins source start → SolvesFrom source start end
    → IsSolvedText begins text (arc_value end.source) end.table
solved_text begins text source start end of_text begun from =
    let is = sym from.source_is in
    record {
      source_of_text = subst (λ (s : Source). IsSourceOf text s) is of_text;
      start = start;
      begun = subst (λ (s : Source). begins s start) is begun;
      solved = subst (λ (s : Source). Solves s.program start end.table) is from.solved;
      solution = subst (λ (s : Source). IsSolution s end.table) is from.solution;
    }

-- and what it stops with, the text stops with
pub stopped_text : (begins : Beginning) (text : List ℕ) (source : Source) (start : Solving) (stop : LoadStop) → IsSourceOf text source → begins source start
    → (stop ≡ Spent → Spends source.program start) → ((fault : FrontFault) → stop ≢ Refused fault) → StopsText begins text stop
stopped_text begins text source start Spent of_text begun spends refused =
    record { source = source; source_of_text = of_text; start = start; begun = begun; spent = spends refl }
stopped_text begins text source start (Refused fault) of_text begun spends refused = absurd (refused fault refl)
stopped_text begins text source start Memory of_text begun spends refused = tt

-- a text that has no source stops with its fault, wherever it would begin
pub without_source : (begins : Beginning) (text : List ℕ) (stop : LoadStop) → stop ≢ Spent → StopsText IsInitial text stop → StopsText begins text stop
without_source begins text Spent not_spent stops = absurd (not_spent refl)
without_source begins text (Refused fault) not_spent stops = stops
without_source begins text Memory not_spent stops = tt

-- ---- the nine texts

module _ (number functions : ℕ) where
  first_begins : (text : List ℕ) (source : Source) (start : Solving) → text ≡ text_at number functions 0 → IsSourceOf text source → IsInitial source start → Begins number functions 0 source start
  first_begins text source start is of_text begun =
      subst (λ (s : Solving). Begins number functions 0 source s) (sym begun) (generated (subst (λ (l : List ℕ). IsSourceOf l source) is of_text))

  pub first_solved : (text : List ℕ) (source : Source) (table : TableValue) → text ≡ text_at number functions 0 → IsSolvedText IsInitial text source table → IsSolvedAt number functions 0 source table
  first_solved text source table is by = record {
    start = by.start;
    begun = first_begins text source by.start is by.source_of_text by.begun;
    solved = by.solved;
    solution = by.solution;
  }

  pub first_stops : (text : List ℕ) (stop : LoadStop) → text ≡ text_at number functions 0 → StopsText IsInitial text stop → Stops number functions stop
  first_stops text Spent is by = record {
    k = 0;
    within = omega arith;
    source = by.source;
    start = by.start;
    begun = first_begins text by.source by.start is by.source_of_text by.begun;
    spent = by.spent;
  }
  first_stops text (Refused fault) is by = record { k = 0; within = omega arith; fault_of_text = subst (λ (l : List ℕ). IsFaultOf l fault) is by }
  first_stops text Memory is by = tt

  module _ (k : ℕ) (before : Source) (old : TableValue) (at : IsSolvedAt number functions k before old) (text : List ℕ) (is : text ≡ text_at number functions (suc k)) where
    next_begins : (source : Source) (start : Solving) → IsSourceOf text source → IsLeftBy before old source start → Begins number functions (suc k) source start
    next_begins source start of_text begun = edited at.begun at.solved (subst (λ (l : List ℕ). IsSourceOf l source) is of_text) begun

    next_at : (source : Source) (table : TableValue) → IsSolvedText (IsLeftBy before old) text source table → IsSolvedAt number functions (suc k) source table
    next_at source table by = record {
      start = by.start;
      begun = next_begins source by.start by.source_of_text by.begun;
      solved = by.solved;
      solution = by.solution;
    }

    pub next_solved : (source : Source) (table : TableValue) (n : ℕ) → n ≡ suc k → IsSolvedText (IsLeftBy before old) text source table → IsSolvedAt number functions n source table
    next_solved source table n next by = subst (λ (m : ℕ). IsSolvedAt number functions m source table) (sym next) (next_at source table by)

    pub next_stops : k < 8 → (stop : LoadStop) → StopsText (IsLeftBy before old) text stop → Stops number functions stop
    next_stops few Spent by = record {
      k = suc k;
      within = omega (arith, few);
      source = by.source;
      start = by.start;
      begun = next_begins by.source by.start by.source_of_text by.begun;
      spent = by.spent;
    }
    next_stops few (Refused fault) by = record { k = suc k; within = omega (arith, few); fault_of_text = subst (λ (l : List ℕ). IsFaultOf l fault) is by }
    next_stops few Memory by = tt
