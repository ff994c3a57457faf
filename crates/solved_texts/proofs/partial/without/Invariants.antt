use Rattle.constraint_sys.specs.Sound.{IsShaped}
use Rattle.solved_texts.proofs.partial.without.Given as goal

abbrev pub invariant-loop-i : goal.invariant-loop-i
invariant-loop-i l = IsShaped l.program l.rest
