use Rattle.std.proofs.Common.{◌≡◌, List, subst, sym}
use Rattle.std.specs.Prelude.{IfOk}
use Rattle.arg_graph.specs.declared.vertex.Vertex.{Vertex}
use Rattle.breakpoint_eval.proofs.Choosing.{without_condition}
use Rattle.breakpoint_eval.proofs.stopping.stopping_among.Goals as goal

pub returns-in-None : goal.returns-in-None
returns-in-None c =
    subst (λ (l : List Vertex). IfOk c.all_of.result (λ at. at ≡ l))
    (sym (without_condition c.args.known.now.program.now c.args.known.now.table.now c.args.vertices.now c.args.cond.now c.in-None.is)) c.all_of.ensures
