-- From what the solver says of a job to what it says of the source and the table that the job is made of.
use Rattle.std.proofs.Common.{◌≡◌, List, [], subst, sym}
use Rattle.std.specs.Arc.{arc_value}
use Rattle.gob_tree.specs.Formed.{IsFormed}
use Rattle.gob_tree.specs.declared.graph.Program.{Program}
use Rattle.c_source.specs.declared.source.Source.{Source}
use Rattle.constraint_sys.specs.PostSolution.{IsPostSolution}
use Rattle.constraint_sys.specs.Sound.{IsShaped, IsSound, IsTurnable}
use Rattle.constraint_sys.specs.Table.{TableValue}
use Rattle.constraint_sys.specs.Turn.{Replays, Solving, initial_dirty, initial_of, initial_table}
use Rattle.constraint_sys.specs.declared.unknown.Unknown.{Unknown}
use Rattle.td_solver.specs.Ending.{IsSolvedBy, IsSpentBy, program_of_job, start_of_job}
use Rattle.td_solver.specs.Running.{Running}
use Rattle.td_solver.specs.declared.job.Job.{Job}
use Rattle.td_solver.specs.declared.job.Solved.{Solved}
use Rattle.load_tables.specs.Ends.{SolvesFrom}
use Rattle.load_tables.specs.Tables.{Spends}

pub initial_start : (p : Program) (table : TableValue) (dirty : List Unknown) (start : Solving) → start ≡ record { table = table; dirty = dirty } → table ≡ initial_table p → dirty ≡ initial_dirty p → start ≡ initial_of p
initial_start p table dirty start is first second = cc

module _ (job : Job) (source : Source) (start : Solving) (is : arc_value job.source ≡ source) (starts : start_of_job job ≡ start) where
  pub sound_of_job : IsSound source.program start → IsSound (program_of_job job) (start_of_job job)
  sound_of_job sound =
      subst (λ (s : Source). IsSound s.program (start_of_job job)) (sym is)
      (subst (λ (s : Solving). IsSound source.program s) (sym starts) sound)

  pub turnable_of_job : IsSound source.program start → IsTurnable (program_of_job job) (start_of_job job)
  turnable_of_job sound =
      let of_job = sound_of_job sound in
      record { shaped = of_job.shaped; dirty_points = of_job.dirty_points }

  replays : (trace : List Unknown) (end : Solving) → Replays (program_of_job job) (start_of_job job) trace end → Replays source.program start trace end
  replays trace end replayed =
      subst (λ (s : Solving). Replays source.program s trace end) starts
      (subst (λ (s : Source). Replays s.program (start_of_job job) trace end) is replayed)

  pub solves_from : IsFormed source.program → (end : Solved) → IsSolvedBy job 100000 end → IsShaped (program_of_job job) end.table → IsPostSolution (program_of_job job) end.table → SolvesFrom source start end
  solves_from formed end by shaped post = record {
    source_is = subst (λ (s : Source). arc_value end.source ≡ s) is by.source;
    solved = record {
      trace = end.trace;
      replayed = replays end.trace (record { table = end.table; dirty = [] }) by.replayed;
      within_budget = by.within_budget;
    };
    solution = record {
      formed = formed;
      shaped = subst (λ (s : Source). IsShaped s.program end.table) is shaped;
      post_solution = subst (λ (s : Source). IsPostSolution s.program end.table) is post;
    };
  }

  pub spends : (run : Running) → IsSpentBy job 100000 run → Spends source.program start
  spends run by = record {
    trace = run.trace;
    left = run.solving;
    replayed = replays run.trace run.solving by.replayed;
    whole_budget = by.whole_budget;
    dirty = by.dirty;
  }
