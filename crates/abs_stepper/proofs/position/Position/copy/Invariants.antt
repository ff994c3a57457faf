use Rattle.std.proofs.Common.{◌≡◌, take}
use Rattle.abs_stepper.proofs.position.Position.copy.Given as goal

abbrev pub invariant-loop-thread : goal.invariant-loop-thread
invariant-loop-thread l = l.threads ≡ take l.thread-index l.self
