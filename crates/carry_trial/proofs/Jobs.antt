-- Jobs that begin soundly.
use Rattle.std.proofs.Common.{◌≡◌, List, subst, sym}
use Rattle.std.specs.Arc.{arc_value}
use Rattle.gob_tree.specs.Formed.{IsFormed}
use Rattle.gob_tree.specs.declared.graph.Program.{Program}
use Rattle.c_source.specs.declared.source.Source.{Source}
use Rattle.constraint_sys.specs.Carry.{Carries}
use Rattle.constraint_sys.specs.PostSolution.{IsPostSolution}
use Rattle.constraint_sys.specs.Sound.{IsShaped, IsSound}
use Rattle.constraint_sys.specs.Table.{TableValue}
use Rattle.constraint_sys.specs.Turn.{Solving, initial_dirty, initial_of, initial_table}
use Rattle.constraint_sys.specs.declared.unknown.Unknown.{Unknown}
use Rattle.constraint_sys.proofs.SoundStart.{IsSound-initial}
use Rattle.carry_law.proofs.Begins.{carried_sound}
use Rattle.td_solver.specs.Ending.{IsSolvedBy, program_of_job, start_of_job}
use Rattle.td_solver.specs.declared.job.Job.{Job}
use Rattle.td_solver.specs.declared.job.Solved.{Solved}
use Rattle.carry_trial.specs.Solutions.{IsSolution, IsSoundJob}

pub initial_start : (p : Program) (table : TableValue) (dirty : List Unknown) (start : Solving) → start ≡ record { table = table; dirty = dirty } → table ≡ initial_table p → dirty ≡ initial_dirty p → start ≡ initial_of p
initial_start p table dirty start is first second = cc

module _ (job : Job) (source : Source) (is : arc_value job.source ≡ source) (formed : IsFormed source.program) where
  by_source : IsSound source.program (start_of_job job) → IsSoundJob job
  by_source sound = record {
    formed = subst (λ (s : Source). IsFormed s.program) (sym is) formed;
    sound = subst (λ (s : Source). IsSound s.program (start_of_job job)) (sym is) sound;
  }

  pub first_sound : start_of_job job ≡ initial_of source.program → IsSoundJob job
  first_sound start = by_source (subst (λ (s : Solving). IsSound source.program s) (sym start) (IsSound-initial source.program formed))

  pub next_sound : (old : Solved) → IsSolution old → Carries (arc_value old.source).program source.program old.table (start_of_job job) → IsSoundJob job
  next_sound old known carries =
      by_source (carried_sound (arc_value old.source).program source.program known.formed formed old.table known.shaped known.post_solution (start_of_job job) carries)

pub is_solution : (job : Job) → IsSoundJob job → (end : Solved) → IsSolvedBy job 100000 end → IsShaped (program_of_job job) end.table → IsPostSolution (program_of_job job) end.table → IsSolution end
is_solution job sound end by shaped post = record {
  formed = subst (λ (s : Source). IsFormed s.program) (sym by.source) sound.formed;
  shaped = subst (λ (s : Source). IsShaped s.program end.table) (sym by.source) shaped;
  post_solution = subst (λ (s : Source). IsPostSolution s.program end.table) (sym by.source) post;
}
