use Rattle.std.proofs.Common.{◌≡◌, ℕ, [], length}
use Rattle.arg_graph.specs.Graphs.{row_for}
use Rattle.arg_graph.proofs.graph.empty_rows.Given as goal

abbrev pub invariant-loop-i : goal.invariant-loop-i
invariant-loop-i l = record {
  counted : length l.rows.items ≡ l._i;
  empty : (node : ℕ) → row_for l.rows.items node ≡ [];
}
