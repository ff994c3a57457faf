use Rattle.std.proofs.Common.{◌≡◌, ◌++◌, [], take, drop}
use Rattle.gob_tree.specs.Labels as spec
use Rattle.gob_tree.proofs.labels.push_labels.Given as goal

abbrev pub invariant-loop-i : goal.invariant-loop-i
invariant-loop-i l = l.labels ++ spec.labels_after (take l.i l.named) (drop l.i l.named) ≡ l.fn.labels ++ spec.labels_after [] l.named
