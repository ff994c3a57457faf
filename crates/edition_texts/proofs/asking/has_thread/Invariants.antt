use Rattle.std.proofs.Common.{◌≡◌, drop}
use Rattle.std.specs.Prelude.{is_some}
use Rattle.abs_stepper.specs.Positions.{stack_of}
use Rattle.edition_texts.proofs.asking.has_thread.Given as goal

abbrev pub invariant-loop-thread : goal.invariant-loop-thread
invariant-loop-thread l = is_some (stack_of (drop l.thread-index l.threads) l.id) ≡ is_some (stack_of l.threads l.id)
