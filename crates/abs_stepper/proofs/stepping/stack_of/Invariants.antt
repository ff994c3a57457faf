use Rattle.std.proofs.Common.{◌≡◌, drop}
use Rattle.abs_stepper.specs.Positions.{stack_of}
use Rattle.abs_stepper.proofs.stepping.stack_of.Given as goal

abbrev pub invariant-loop-thread : goal.invariant-loop-thread
invariant-loop-thread l = stack_of (drop l.thread-index l.threads) l.id ≡ stack_of l.threads l.id
