use Rattle.std.proofs.Common.{◌≡◌, ◌++◌, map, drop}
use Rattle.gob_tree.specs.declared.graph.FuncGraph.{FuncGraph}
use Rattle.gob_tree.specs.Labels.{labels_of}
use Rattle.edition_core.proofs.labels.labels_of_functions.Given as goal

abbrev pub invariant-loop-func : goal.invariant-loop-func
invariant-loop-func l = l.all ++ map (λ (f : FuncGraph). labels_of f.slots) (drop l.func-index l.funcs) ≡ map (λ (f : FuncGraph). labels_of f.slots) l.funcs
