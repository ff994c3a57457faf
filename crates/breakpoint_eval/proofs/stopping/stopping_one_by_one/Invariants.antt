use Rattle.std.proofs.Common.{◌≡◌, ◌++◌, Some, drop, true}
use Rattle.std.specs.Prelude.{filter}
use Rattle.state_dom.specs.Operators.{may_be}
use Rattle.arg_graph.specs.declared.vertex.Vertex.{Vertex}
use Rattle.breakpoint_eval.specs.Watching.{interval_at}
use Rattle.breakpoint_eval.proofs.stopping.stopping_one_by_one.Given as goal

abbrev pub invariant-loop-v : goal.invariant-loop-v
invariant-loop-v l =
    l.left ++ filter (λ (v : Vertex). may_be true (interval_at l.known.program.now l.known.table.now (Some v) l.x)) (drop l.v-index l.vertices)
    ≡ filter (λ (v : Vertex). may_be true (interval_at l.known.program.now l.known.table.now (Some v) l.x)) l.vertices
