use Rattle.std.proofs.Common.{◌≡◌, ◌+◌, ℕ, length}
use Rattle.arg_chain.specs.Walk.{steps_at}
use Rattle.arg_chain.proofs.hops.add_empty_rows.Given as goal

abbrev pub invariant-loop : goal.invariant-loop
invariant-loop l = record {
  len : length l.rows.items ≡ length l.fn.rows.items + l.counter;
  kept : (j : ℕ) → steps_at l.rows.items j ≡ steps_at l.fn.rows.items j;
}
