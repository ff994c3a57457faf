use Rattle.std.proofs.Common.{◌≡◌, ℕ, Some, take}
use Rattle.std.specs.Prelude.{Contains}
use Rattle.arg_chain.specs.Walk.{known_at}
use Rattle.arg_chain.specs.Choice.{IsLeastOf}
use Rattle.arg_chain.proofs.least.least_distance.Given as goal

abbrev pub invariant-loop-r : goal.invariant-loop-r
invariant-loop-r l = IsLeastOf (λ n. (r : ℕ) × Contains (take l.r-index l.roots) r × (known_at l.known r ≡ Some n)) l.best
