use Rattle.std.proofs.Common.{◌≡◌, ◌⊎◌, ◌↔◌, ℕ, length, take}
use Rattle.std.specs.Prelude.{Contains}
use Rattle.arg_chain.specs.Walk.{before_at, LeadsTo}
use Rattle.arg_chain.proofs.turned.add_each.Given as goal

abbrev pub invariant-loop-step : goal.invariant-loop-step
invariant-loop-step l = record {
  len : length l.rows.items ≡ length l.fn.rows.items;
  members : (w x : ℕ) → Contains (before_at l.rows.items w) x ↔ (Contains (before_at l.fn.rows.items w) x ⊎ (LeadsTo (take l.step-index l.steps) w × (x ≡ l.u)));
}
