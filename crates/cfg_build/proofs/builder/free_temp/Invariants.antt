use Rattle.std.proofs.Common.{◌≡◌, drop, reverse}
use Rattle.c_meaning.specs.Graph.{free_from}
use Rattle.cfg_build.proofs.builder.free_temp.Given as goal

abbrev pub invariant-loop-k : goal.invariant-loop-k
invariant-loop-k l = free_from l.k (drop l.k l.temps) l.width (reverse l.taken) ≡ free_from 0 l.temps l.width (reverse l.taken)
