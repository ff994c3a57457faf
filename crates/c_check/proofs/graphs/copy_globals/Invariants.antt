use Rattle.std.proofs.Common.{◌≡◌, take}
use Rattle.c_check.proofs.graphs.copy_globals.Given as goal

abbrev pub invariant-loop-global : goal.invariant-loop-global
invariant-loop-global l = l.list ≡ take l.global-index l.globals
