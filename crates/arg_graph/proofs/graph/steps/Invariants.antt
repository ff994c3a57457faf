use Rattle.std.proofs.Common.{◌≡◌, take}
use Rattle.std.specs.Prelude.{Contains, IfSome, IsSome}
use Rattle.arg_graph.specs.Graphs.{steps_in}
use Rattle.arg_graph.specs.Offered.{offered}
use Rattle.arg_graph.specs.declared.vertex.Vertex.{Vertex}
use Rattle.arg_graph.proofs.graph.steps.Given as goal

abbrev pub invariant-loop-v : goal.invariant-loop-v
invariant-loop-v l = record {
  right : (q : Vertex) → IfSome (steps_in l.all.entries q) (λ ss. ss ≡ offered l.program l.table q);
  there : (q : Vertex) → Contains (take l.v-index l.vertices) q → IsSome (steps_in l.all.entries q);
}
