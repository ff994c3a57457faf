use Rattle.std.proofs.Common.{◌≡◌, ◌++◌, ◌<◌, ◌≤ℤ◌, ℕ, Some, drop, map}
use Rattle.std.specs.Prelude.{slice_get}
use Rattle.arg_graph.specs.declared.vertex.Vertex.{Vertex}
use Rattle.breakpoint_eval.specs.Columns.{high_at, low_at}
use Rattle.breakpoint_eval.proofs.columns.ends_at.Given as goal

abbrev pub invariant-loop-v : goal.invariant-loop-v
invariant-loop-v l = record {
  lo : l.lo.items ++ map (low_at l.table l.slot) (drop l.v-index l.vertices) ≡ map (low_at l.table l.slot) l.vertices;
  hi : l.hi.items ++ map (high_at l.table l.slot) (drop l.v-index l.vertices) ≡ map (high_at l.table l.slot) l.vertices;
  ordered : (k : ℕ) → k < l.v-index → (v : Vertex) → slice_get l.vertices k ≡ Some v → low_at l.table l.slot v ≤ℤ high_at l.table l.slot v;
}
