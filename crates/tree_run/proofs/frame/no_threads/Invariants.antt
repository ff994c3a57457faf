use Rattle.std.proofs.Common.{◌≡◌, replicate, None}
use Rattle.tree_run.proofs.frame.no_threads.Given as goal

abbrev pub invariant-loop-name : goal.invariant-loop-name
invariant-loop-name l = l.vars.items ≡ replicate l._name-index None
