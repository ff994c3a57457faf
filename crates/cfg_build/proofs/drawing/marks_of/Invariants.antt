use Rattle.std.proofs.Common.{◌≡◌, map, take}
use Rattle.cfg_build.proofs.drawing.marks_of.Given as goal

abbrev pub invariant-loop-edge : goal.invariant-loop-edge
invariant-loop-edge l = l.marks ≡ map (λ m. m.silent) (take l.edge-index l.edges)
