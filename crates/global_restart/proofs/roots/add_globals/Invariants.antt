use Rattle.global_restart.proofs.Adding.{GlobalsComing}
use Rattle.global_restart.proofs.roots.add_globals.Given as goal

abbrev pub invariant-loop-g : goal.invariant-loop-g
invariant-loop-g l = GlobalsComing l.fn.table l.table l.globals l.g
