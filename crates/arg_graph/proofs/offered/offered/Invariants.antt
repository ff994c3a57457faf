use Rattle.std.proofs.Common.{◌≡◌, ◌++◌, drop}
use Rattle.arg_graph.specs.Offered.{offered}
use Rattle.arg_graph.proofs.ByNumber.{steps_at_numbers}
use Rattle.arg_graph.proofs.offered.offered.Given as goal

abbrev pub invariant-loop-i : goal.invariant-loop-i
invariant-loop-i l = l.steps ++ steps_at_numbers l.program l.table l.v l.edges (drop l.i-index l.i-items) ≡ offered l.program l.table l.v
