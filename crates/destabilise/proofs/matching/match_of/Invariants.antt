use Rattle.std.proofs.Common.{◌<◌, ℕ}
use Rattle.destabilise.specs.Matched.{IsSame}
use Rattle.destabilise.proofs.matching.match_of.Given as goal

abbrev pub invariant-loop-j : goal.invariant-loop-j
invariant-loop-j l = (k : ℕ) → k < l.j → IsSame l.kind l.old l.i l.new k → ⊥
