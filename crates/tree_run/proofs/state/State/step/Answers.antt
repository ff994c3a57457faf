use Rattle.std.proofs.Common.{subst, ℤ}
use Rattle.std.specs.Int.{w64}
use Rattle.std.proofs.Math.Facts.{to_z-of_z}
use Rattle.c_meaning.specs.Tree.{frame_step}
use Rattle.tree_run.specs.Going.{config_of, site_on, Does}
use Rattle.tree_run.proofs.Does.{steps_of}
use Rattle.tree_run.proofs.state.State.step.Goals as goal

pub returns-in-Ok : goal.returns-in-Ok
returns-in-Ok c =
    steps_of c.args.self.now (config_of c.step_at.new.self) c.args.unit.now c.args.thread c.in-Ok.place c.args.input c.step_at.result c.in-Ok.ensures
    (λ frame below shows. subst (λ (k : ℤ). Does (config_of c.args.self.now) (config_of c.step_at.new.self) c.args.thread (frame_step frame.todo (site_on c.args.unit.now (config_of c.args.self.now) c.args.thread k frame below)) c.step_at.result) (to_z-of_z {w = w64} c.ranges.input) (c.step_at.ensures frame below shows))
