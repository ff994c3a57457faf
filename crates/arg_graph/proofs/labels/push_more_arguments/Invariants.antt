use Rattle.std.proofs.Common.{◌≡◌, ◌++◌, drop}
use Rattle.arg_graph.specs.Texts as spec
use Rattle.arg_graph.proofs.labels.push_more_arguments.Given as goal

abbrev pub invariant-loop-e : goal.invariant-loop-e
invariant-loop-e l = l.out.items ++ spec.more_arguments_text l.names (drop l.e-index l.args) ≡ l.fn.out.items ++ spec.more_arguments_text l.names l.args
