use Rattle.std.proofs.Common.{◌≡◌, ◌≤◌, ◌++◌, drop}
use Rattle.arg_graph.specs.Texts.{names_from}
use Rattle.arg_graph.proofs.expressions.push_names.Given as goal

abbrev pub invariant-loop-label : goal.invariant-loop-label
invariant-loop-label l = record {
  counted : l.temporaries ≤ l.label-index;
  named : l.names ++ names_from l.temporaries (drop l.label-index l.labels) ≡ l.fn.names ++ names_from 0 l.labels;
}
