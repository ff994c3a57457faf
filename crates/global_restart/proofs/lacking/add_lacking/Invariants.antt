use Rattle.global_restart.proofs.Adding.{AllComing}
use Rattle.global_restart.proofs.lacking.add_lacking.Given as goal

abbrev pub invariant-loop-i : goal.invariant-loop-i
invariant-loop-i l = AllComing l.program l.fn.table l.table l.added.items l.i
