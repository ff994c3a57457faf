-- From what the solver says of a job that begins at the initial table to what `analyse` says.
use Rattle.std.proofs.Common.{◌≡◌, ◌++◌, ℕ, List, [], codes, ap, subst, sym, ◌∙◌}
use Rattle.std.specs.Arc.{arc_value}
use Rattle.gob_tree.specs.Formed.{IsFormed}
use Rattle.gob_tree.specs.declared.graph.Program.{Program}
use Rattle.c_source.specs.declared.source.Source.{Source}
use Rattle.constraint_sys.proofs.SoundStart.{IsSound-initial}
use Rattle.constraint_sys.specs.PostSolution.{IsPostSolution}
use Rattle.constraint_sys.specs.Sound.{IsShaped, IsSound, IsTurnable}
use Rattle.constraint_sys.specs.Table.{TableValue}
use Rattle.constraint_sys.specs.Turn.{Replays, Solving, initial_of}
use Rattle.constraint_sys.specs.declared.unknown.Unknown.{Unknown}
use Rattle.td_solver.specs.Ending.{IsSolvedBy, IsSpentBy, program_of_job, start_of_job}
use Rattle.td_solver.specs.Running.{Running}
use Rattle.td_solver.specs.declared.job.Job.{Job}
use Rattle.td_solver.specs.declared.job.Solved.{Solved}
use Rattle.tree_law.specs.Laws.{TreesAreShown}
use Rattle.edition_core.specs.Printed.{printed}
use Rattle.gobpie_main.specs.Analyse.{Completes, ShowsRuns, Spends}
use Rattle.c_source.specs.Sources.{IsAnalysable}

-- every shaped post-solution of a source's program shows the runs of its text
shown_by : TreesAreShown → (source : Source) (table : TableValue) → IsAnalysable source → IsShaped source.program table → IsPostSolution source.program table → ShowsRuns source table
shown_by law source table is shaped post choices c run =
    law source.unit table choices c is.made is.sizes
    (subst (λ (p : Program). IsShaped p table) is.program shaped)
    (subst (λ (p : Program). IsPostSolution p table) is.program post) run

module _ (job : Job) (source : Source) (is : arc_value job.source ≡ source) (start : start_of_job job ≡ initial_of source.program) where
  pub sound_start : IsFormed source.program → IsSound (program_of_job job) (start_of_job job)
  sound_start formed =
      subst (λ (s : Source). IsSound s.program (start_of_job job)) (sym is)
      (subst (λ (s : Solving). IsSound source.program s) (sym start) (IsSound-initial source.program formed))

  pub turnable_start : IsFormed source.program → IsTurnable (program_of_job job) (start_of_job job)
  turnable_start formed =
      let sound = sound_start formed in
      record { shaped = sound.shaped; dirty_points = sound.dirty_points }

  replays : (trace : List Unknown) (end : Solving) → Replays (program_of_job job) (start_of_job job) trace end → Replays source.program (initial_of source.program) trace end
  replays trace end replayed =
      subst (λ (s : Solving). Replays source.program s trace end) start
      (subst (λ (s : Source). Replays s.program (start_of_job job) trace end) is replayed)

  pub solved_completes : TreesAreShown → IsAnalysable source → (budget : ℕ) (solved : Solved) (bytes : List ℕ) → IsSolvedBy job budget solved → IsShaped (program_of_job job) solved.table
      → IsPostSolution (program_of_job job) solved.table → bytes ≡ printed (arc_value solved.source).program solved.table ++ codes "complete\n" → Completes source budget bytes
  solved_completes law analysable budget solved bytes by shaped post bytes_are = record {
    trace = solved.trace;
    table = solved.table;
    replayed = replays solved.trace (record { table = solved.table; dirty = [] }) by.replayed;
    within_budget = by.within_budget;
    post_solution = subst (λ (s : Source). IsPostSolution s.program solved.table) is post;
    shows_runs = shown_by law source solved.table analysable
        (subst (λ (s : Source). IsShaped s.program solved.table) is shaped)
        (subst (λ (s : Source). IsPostSolution s.program solved.table) is post);
    bytes_are = bytes_are ∙ ap (λ (s : Source). printed s.program solved.table ++ codes "complete\n") (by.source ∙ is);
  }

  pub spent_spends : (budget : ℕ) (run : Running) → IsSpentBy job budget run → Spends source.program budget
  spent_spends budget run by = record {
    trace = run.trace;
    left = run.solving;
    replayed = replays run.trace run.solving by.replayed;
    whole_budget = by.whole_budget;
    dirty = by.dirty;
  }
