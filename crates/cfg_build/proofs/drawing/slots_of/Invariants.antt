use Rattle.std.proofs.Common.{◌≡◌, ◌++◌, map, take}
use Rattle.c_meaning.specs.Graph.{temporary}
use Rattle.cfg_build.proofs.drawing.slots_of.Given as goal

abbrev pub invariant-loop-width : goal.invariant-loop-width
invariant-loop-width l = l.slots ≡ l.named ++ map temporary (take l.width-index l.temps)
