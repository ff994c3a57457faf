-- What the trials know of a job before its first turn, and of a solved table.
use Rattle.std.specs.Arc.{arc_value}
use Rattle.gob_tree.specs.Formed.{IsFormed}
use Rattle.constraint_sys.specs.PostSolution.{IsPostSolution}
use Rattle.constraint_sys.specs.Sound.{IsShaped, IsSound}
use Rattle.td_solver.specs.Ending.{program_of_job, start_of_job}
use Rattle.td_solver.specs.declared.job.Job.{Job}
use Rattle.td_solver.specs.declared.job.Solved.{Solved}

-- a sound beginning for a program that is well formed
pub record IsSoundJob (job : Job) : Type 0 where
  pub formed : IsFormed (program_of_job job)
  pub sound : IsSound (program_of_job job) (start_of_job job)

-- a post-solution of such a program
pub record IsSolution (s : Solved) : Type 0 where
  pub formed : IsFormed (arc_value s.source).program
  pub shaped : IsShaped (arc_value s.source).program s.table
  pub post_solution : IsPostSolution (arc_value s.source).program s.table
