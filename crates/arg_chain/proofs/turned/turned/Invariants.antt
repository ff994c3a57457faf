use Rattle.std.proofs.Common.{◌≡◌, ◌↔◌, ◌<◌, ℕ, length}
use Rattle.std.specs.Prelude.{Contains}
use Rattle.arg_chain.specs.Walk.{before_at, HasStep}
use Rattle.arg_chain.proofs.turned.turned.Given as goal

abbrev pub invariant-loop-u : goal.invariant-loop-u
invariant-loop-u l = record {
  len : length l.rows.items ≡ length l.graph;
  members : (u w : ℕ) → Contains (before_at l.rows.items w) u ↔ ((u < l.u) × HasStep l.graph u w);
}
