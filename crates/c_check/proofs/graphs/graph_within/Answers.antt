use Rattle.std.proofs.Common.{ap, length, arith}
use Rattle.gob_tree.specs.declared.graph.FuncGraph.{FuncGraph}
use Rattle.c_check.specs.Front.{size_faults}
use Rattle.c_check.proofs.Firsts.{want_is_first}
use Rattle.c_check.proofs.FrontGraphs.{over_nodes, over_limits}
use Rattle.c_check.proofs.graphs.graph_within.Goals as goal

pub returns-then-nodes-len : goal.returns-then-nodes-len
returns-then-nodes-len c = over_nodes c.fault_at.result c.args.nodes c.args.function.now (length c.in-Ok.graph.nodes) c.fault_at.ensures (ap (λ (g : FuncGraph). length g.nodes) c.in-Ok.ensures.graph) (omega arith) c.requires

pub returns-in-Err-Limit : goal.returns-in-Err-Limit
returns-in-Err-Limit c = over_limits c.fault_at-in-Err-Limit.result c.args.nodes c.args.function.now c.fault_at-in-Err-Limit.ensures (c.in-Err-Limit.ensures.limit c.in-Err-Limit.field-0-is)

pub returns-in-Err-Memory : goal.returns-in-Err-Memory
returns-in-Err-Memory c = want_is_first c.want_of_memory.result (size_faults c.args.nodes c.args.function.now) c.want_of_memory.ensures
