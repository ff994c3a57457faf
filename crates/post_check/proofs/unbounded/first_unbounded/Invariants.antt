use Rattle.std.proofs.Common.{take}
use Rattle.std.specs.Prelude.{All}
use Rattle.post_check.specs.Unbroken.{AreBounded}
use Rattle.post_check.proofs.unbounded.first_unbounded.Given as goal

abbrev pub invariant-loop-e : goal.invariant-loop-e
invariant-loop-e l = All (AreBounded l.table) (take l.e-index l.effects)
