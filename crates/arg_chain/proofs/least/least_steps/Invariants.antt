use Rattle.std.proofs.Common.{◌≡◌, ◌+◌, ◌++◌, List, Some, length}
use Rattle.arg_chain.specs.declared.hop.Hop.{Hop}
use Rattle.arg_chain.specs.Walk.{known_at}
use Rattle.arg_chain.specs.Choice.{IsGreedy}
use Rattle.arg_chain.proofs.least.least_steps.Given as goal

abbrev pub invariant-loop-left : goal.invariant-loop-left
invariant-loop-left l = record {
  at_known : known_at l.known l.at ≡ Some l.left;
  len : length l.steps.items + l.left ≡ l.fn.n;
  built : (rest : List Hop) → length rest ≡ l.left → IsGreedy l.graph l.known l.at rest → IsGreedy l.graph l.known l.fn.root (l.steps.items ++ rest);
}

abbrev pub decreases-loop-left : goal.decreases-loop-left
decreases-loop-left l = l.left
