use Rattle.std.proofs.Common.{◌≡◌, ℕ, length}
use Rattle.std.specs.Prelude.{Contains}
use Rattle.arg_chain.specs.Walk.{before_at}
use Rattle.arg_chain.proofs.turned.no_rows.Given as goal

abbrev pub invariant-loop : goal.invariant-loop
invariant-loop l = record {
  len : length l.rows.items ≡ l.counter;
  none : (u w : ℕ) → Contains (before_at l.rows.items w) u → ⊥;
}
