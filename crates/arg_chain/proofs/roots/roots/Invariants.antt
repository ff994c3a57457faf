use Rattle.std.proofs.Common.{◌↔◌, ℕ, length, take}
use Rattle.std.specs.Prelude.{Contains}
use Rattle.arg_chain.specs.Calls.{IsRootNumber}
use Rattle.arg_chain.proofs.roots.roots.Given as goal

abbrev pub invariant-loop-v : goal.invariant-loop-v
invariant-loop-v l = (r : ℕ) → Contains l.roots.items r ↔ IsRootNumber l.program (take l.v-index l.vertices) (length l.vertices) l.hops.numbers.entries r
