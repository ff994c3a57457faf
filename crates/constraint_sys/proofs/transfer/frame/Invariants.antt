use Rattle.std.proofs.Common.{◌≡◌, take}
use Rattle.lockset_dom.specs.Members.{no_locks}
use Rattle.state_dom.specs.StateValue.{Reached}
use Rattle.constraint_sys.specs.Transfer.{frame_of}
use Rattle.constraint_sys.proofs.transfer.frame.Given as goal

abbrev pub invariant-loop-i : goal.invariant-loop-i
invariant-loop-i l = l.state ≡ Reached (frame_of l.callee.slots (take l.i l.args)) no_locks
