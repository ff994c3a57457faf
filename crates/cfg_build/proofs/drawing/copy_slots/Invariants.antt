use Rattle.std.proofs.Common.{◌≡◌, take}
use Rattle.cfg_build.proofs.drawing.copy_slots.Given as goal

abbrev pub invariant-loop-slot : goal.invariant-loop-slot
invariant-loop-slot l = l.list ≡ take l.slot-index l.slots
