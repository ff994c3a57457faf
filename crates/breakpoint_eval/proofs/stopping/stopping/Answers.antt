use Rattle.std.proofs.Common.{◌≡◌, ◌∙◌, List, subst}
use Rattle.std.specs.Prelude.{Contains, IfOk, filter}
use Rattle.arg_graph.specs.declared.vertex.Vertex.{Vertex}
use Rattle.breakpoint_eval.specs.Watching.{may_stop}
use Rattle.breakpoint_eval.proofs.Standing.{stands_at}
use Rattle.breakpoint_eval.proofs.stopping.stopping.Goals as goal

pub stopping_among-requires-clause-there : goal.stopping_among-requires-clause-there
stopping_among-requires-clause-there c =
    let stop = c.args.stop.now in
    λ v one. (stands_at c.args.known.now.table.now stop.func stop.node v (subst (λ (l : List Vertex). Contains l v) (c.at_node-vertices.ensures ∙ c.requires.graph.at_node stop.func stop.node) one)).0

pub stopping_among-requires-clause-func : goal.stopping_among-requires-clause-func
stopping_among-requires-clause-func c =
    let stop = c.args.stop.now in
    λ v one. (stands_at c.args.known.now.table.now stop.func stop.node v (subst (λ (l : List Vertex). Contains l v) (c.at_node-vertices.ensures ∙ c.requires.graph.at_node stop.func stop.node) one)).1

pub returns : goal.returns
returns c =
    let stop = c.args.stop.now in
    subst (λ (l : List Vertex). IfOk c.stopping_among.result (λ at. at ≡ filter (may_stop c.args.known.now.program.now c.args.known.now.table.now stop.cond) l))
    (c.at_node-vertices.ensures ∙ c.requires.graph.at_node stop.func stop.node) c.stopping_among.ensures
