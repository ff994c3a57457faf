use Rattle.std.proofs.Common.{◌≡◌, ◌++◌, drop}
use Rattle.arg_graph.specs.Offered.{starts}
use Rattle.arg_graph.proofs.offered.push_begun.Given as goal

abbrev pub invariant-loop-effect : goal.invariant-loop-effect
invariant-loop-effect l = l.steps ++ starts l.label (drop l.effect-index l.effects) ≡ l.fn.steps ++ starts l.label l.effects
