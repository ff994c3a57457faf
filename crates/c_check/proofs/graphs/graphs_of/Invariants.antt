use Rattle.std.proofs.Common.{◌≡◌, ◌≤◌, map, take, drop}
use Rattle.c_meaning.specs.Graph.{graph_of}
use Rattle.c_check.specs.Front.{graph_faults}
use Rattle.c_check.proofs.graphs.graphs_of.Given as goal

abbrev pub invariant-loop-function : goal.invariant-loop-function
invariant-loop-function l = record {
  made : l.graphs ≡ map graph_of (take l.function-index l.functions);
  within : l.nodes ≤ 4096;
  rest : graph_faults 0 l.functions ≡ graph_faults l.nodes (drop l.function-index l.functions);
}
