use Rattle.std.proofs.Common.{◌≡◌, ◌++◌, drop}
use Rattle.std.specs.Prelude.{filter}
use Rattle.abs_stepper.specs.Statements.{is_entering}
use Rattle.abs_stepper.proofs.choice.push_entering.Given as goal

abbrev pub invariant-loop-label : goal.invariant-loop-label
invariant-loop-label l = l.entering.items ++ filter is_entering (drop l.label-index l.labels) ≡ l.fn.entering.items ++ filter is_entering l.labels
