use Rattle.std.proofs.Common.{◌≡◌, ◌<◌, ℕ, length, take}
use Rattle.std.specs.Prelude.{filter}
use Rattle.constraint_sys.specs.Table.{nodes_at}
use Rattle.arg_graph.specs.Graphs.{HasRoom, row_of}
use Rattle.arg_graph.specs.Vertices.{is_at}
use Rattle.arg_graph.proofs.graph.by_node.Given as goal

abbrev pub invariant-loop-v : goal.invariant-loop-v
invariant-loop-v l = record {
  at : (f node : ℕ) → row_of l.rows.items f node ≡ filter (is_at f node) (take l.v-index l.vertices);
  room : (f node : ℕ) → node < length (nodes_at l.program f) → HasRoom l.rows.items f node;
}
