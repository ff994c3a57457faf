use Rattle.std.proofs.Common.{◌≡◌, ◌<◌, ℕ, Some, length}
use Rattle.std.specs.Prelude.{slice_get}
use Rattle.std.specs.List.{flat_map}
use Rattle.arg_graph.specs.Graphs.{offered_in}
use Rattle.arg_graph.specs.declared.vertex.Vertex.{Vertex}
use Rattle.arg_chain.specs.Calls.{hop_of}
use Rattle.arg_chain.specs.Walk.{steps_at}
use Rattle.arg_chain.proofs.hops.call_rows.Given as goal

abbrev pub invariant-loop-v : goal.invariant-loop-v
invariant-loop-v l = record {
  counted : length l.rows.items ≡ l.v-index;
  calls : (i : ℕ) (w : Vertex) → i < l.v-index → slice_get l.vertices i ≡ Some w → steps_at l.rows.items i ≡ flat_map (hop_of l.numbers.entries (length l.vertices)) (offered_in l.graph w);
}
