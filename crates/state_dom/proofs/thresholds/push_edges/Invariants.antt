use Rattle.std.proofs.Common.{◌≡◌, ◌++◌, drop}
use Rattle.state_dom.specs.ThresholdValues.{numbers_of_edges}
use Rattle.state_dom.proofs.thresholds.push_edges.Given as goal

abbrev pub invariant-loop-edge : goal.invariant-loop-edge
invariant-loop-edge l = l.numbers.items ++ numbers_of_edges (drop l.edge-index l.edges) ≡ l.fn.numbers.items ++ numbers_of_edges l.edges
