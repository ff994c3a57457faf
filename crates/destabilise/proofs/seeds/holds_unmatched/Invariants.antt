use Rattle.std.proofs.Common.{◌<◌, ℕ}
use Rattle.lockset_dom.specs.Members.{Holds}
use Rattle.destabilise.specs.Seeds.{LacksMatch}
use Rattle.destabilise.proofs.seeds.holds_unmatched.Given as goal

abbrev pub invariant-loop-m : goal.invariant-loop-m
invariant-loop-m l = (k : ℕ) → k < l.m → Holds l.locks k × LacksMatch l.mutexes k → ⊥
