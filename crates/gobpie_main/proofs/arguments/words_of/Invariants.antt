use Rattle.gobpie_main.proofs.Asked.{ReadSoFar}
use Rattle.gobpie_main.proofs.arguments.words_of.Given as goal

abbrev pub invariant-loop-place : goal.invariant-loop-place
invariant-loop-place g l = ReadSoFar (g.A.Arguments.told l.arguments) l.place l.words.items
