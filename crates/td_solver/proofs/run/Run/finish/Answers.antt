use Rattle.std.proofs.Common.{ap, subst}
use Rattle.c_source.specs.declared.source.Source.{Source}
use Rattle.constraint_sys.specs.Sound.{IsShaped}
use Rattle.td_solver.specs.Running.{Running}
use Rattle.td_solver.proofs.run.Run.finish.Goals as goal

pub returns-clause-shaped : goal.returns-clause-shaped
returns-clause-shaped c = subst (λ (s : Source). IsShaped s.program c.self.inside.table) (ap (λ (run : Running). run.source) c.self.view_is) c.self.invariant.2.shaped
