use Rattle.post_check.specs.Unbroken.{HasFirstNodes}
use Rattle.post_check.proofs.missing.least_missing.Given as goal

abbrev pub invariant-loop-node : goal.invariant-loop-node
invariant-loop-node l = HasFirstNodes l.table l.func l.key l.node
