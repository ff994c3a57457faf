use Rattle.std.proofs.Common.{◌≡◌, ◌++◌}
use Rattle.constraint_sys.proofs.plan.plan_turn.Given as goal

abbrev pub invariant-loop-e : goal.invariant-loop-e
invariant-loop-e l = l.raises ≡ l.initial.raises ++ l.yielded
