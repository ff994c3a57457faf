use Rattle.std.proofs.Common.{◌≡◌, ◌<◌, ℕ, [], length}
use Rattle.constraint_sys.specs.Table.{nodes_at}
use Rattle.arg_graph.specs.Graphs.{HasRoom, row_of}
use Rattle.arg_graph.proofs.graph.no_rows.Given as goal

abbrev pub invariant-loop-function : goal.invariant-loop-function
invariant-loop-function l = record {
  counted : length l.rows.items ≡ l.function-index;
  none : (f node : ℕ) → row_of l.rows.items f node ≡ [];
  room : (f node : ℕ) → f < l.function-index → node < length (nodes_at l.program f) → HasRoom l.rows.items f node;
}
