use Rattle.std.proofs.Common.{sym}
use Rattle.arg_graph.proofs.VertexLemmas.{vertex_eq-apart}
use Rattle.arg_graph.proofs.graph.put.Goals as goal

pub returns-clause-others : goal.returns-clause-others
returns-clause-others c = λ q other. c.in_ok-insert.ensures.updates.2 q (vertex_eq-apart c.args.v q (λ same. other (sym same)))
