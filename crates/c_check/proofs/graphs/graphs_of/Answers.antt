use Rattle.std.proofs.Common.{subst}
use Rattle.std.proofs.lemmas.Result.{err_from_is_err_and}
use Rattle.gob_tree.specs.declared.unit.Function.{Function}
use Rattle.c_check.specs.Faults.{IsFirst}
use Rattle.c_check.specs.Front.{size_faults, graph_faults}
use Rattle.c_check.proofs.Firsts.{want_is_first}
use Rattle.c_check.proofs.FrontGraphs.{graphs_fault}
use Rattle.c_check.proofs.graphs.graphs_of.Goals as goal

pub returns-in_err-graph : goal.returns-in_err-graph
returns-in_err-graph c =
    let p = err_from_is_err_and c.from_residual.result c.from_residual.ensures.1 in
    rw (p.1, p.2) (graphs_fault c.in_err-graph.field-0.0 c.args.functions.now c.loop-function.function-index c.loop-function.nodes c.function-item.result c.loop-function-test.true c.loop-function.invariant.rest
    (subst (λ (f : Function). IsFirst c.in_err-graph.field-0.0 (size_faults c.loop-function.nodes f)) c.function-item.is c.in_err-graph.ensures))

pub returns-in_err-push : goal.returns-in_err-push
returns-in_err-push c =
    let p = err_from_is_err_and c.from_residual-in_err-push.result c.from_residual-in_err-push.ensures.1 in
    rw p.1 (want_is_first p.0 (graph_faults 0 c.args.functions.now) p.2)
