-- A job that begins at the initial table, and the solved table that comes of it.
use Rattle.std.proofs.Common.{◌≡◌, subst, sym, ◌∙◌}
use Rattle.std.specs.Arc.{arc_value}
use Rattle.gob_tree.specs.Formed.{IsFormed}
use Rattle.c_source.specs.declared.source.Source.{Source}
use Rattle.constraint_sys.proofs.SoundStart.{IsSound-initial}
use Rattle.constraint_sys.specs.Sound.{IsSound, IsTurnable}
use Rattle.constraint_sys.specs.Turn.{Solving, initial_of}
use Rattle.td_solver.specs.Ending.{program_of_job, start_of_job}
use Rattle.td_solver.specs.declared.job.Job.{Job}

module _ (job : Job) (source : Source) (is : arc_value job.source ≡ source) (start : start_of_job job ≡ initial_of source.program) (formed : IsFormed source.program) where
  pub sound_start : IsSound (program_of_job job) (start_of_job job)
  sound_start =
      subst (λ (s : Source). IsSound s.program (start_of_job job)) (sym is)
      (subst (λ (s : Solving). IsSound source.program s) (sym start) (IsSound-initial source.program formed))

  pub turnable_start : IsTurnable (program_of_job job) (start_of_job job)
  turnable_start =
      let sound = sound_start in
      record { shaped = sound.shaped; dirty_points = sound.dirty_points }
