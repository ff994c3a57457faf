use Rattle.std.proofs.Common.{◌≡◌, ◌++◌, drop}
use Rattle.std.specs.Prelude.{filter}
use Rattle.abs_stepper.specs.Statements.{is_passing}
use Rattle.abs_stepper.proofs.choice.push_passing.Given as goal

abbrev pub invariant-loop-label : goal.invariant-loop-label
invariant-loop-label l = l.passing.items ++ filter is_passing (drop l.label-index l.labels) ≡ l.fn.passing.items ++ filter is_passing l.labels
