use Rattle.std.proofs.Common.{◌≡◌, ◌++◌, map, drop}
use Rattle.gob_tree.specs.declared.unit.Function.{Function}
use Rattle.gob_tree.specs.Labels.{labels_of}
use Rattle.run_lines.proofs.print.labels_of_functions.Given as goal

abbrev pub invariant-loop-f : goal.invariant-loop-f
invariant-loop-f l = l.all ++ map (λ (f : Function). labels_of f.slots) (drop l.f-index l.funcs) ≡ map (λ (f : Function). labels_of f.slots) l.funcs
