use Rattle.std.proofs.Common.{◌≡◌, length}
use Rattle.edition_texts.proofs.stopping.breaks_of.Given as goal

abbrev pub invariant-loop-one : goal.invariant-loop-one
invariant-loop-one l = length l.breaks.items ≡ l.one-index
