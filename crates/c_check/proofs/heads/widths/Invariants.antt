use Rattle.std.proofs.Common.{◌≡◌, map, take}
use Rattle.c_check.specs.Units.{width_of}
use Rattle.c_check.proofs.heads.widths.Given as goal

abbrev pub invariant-loop-param : goal.invariant-loop-param
invariant-loop-param l = l.list ≡ map width_of (take l.param-index l.params)
