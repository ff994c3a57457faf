use Rattle.std.proofs.Common.{◌≡◌, map}
use Rattle.cfg_build.proofs.drawing.without_marks.Given as goal

abbrev pub invariant-loop-one : goal.invariant-loop-one
invariant-loop-one l = l.edges ≡ map (λ m. m.edge) l.yielded
