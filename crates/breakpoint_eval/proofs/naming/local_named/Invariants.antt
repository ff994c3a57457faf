use Rattle.std.proofs.Common.{◌≡◌, drop}
use Rattle.std.specs.List.{position_from}
use Rattle.gob_tree.specs.declared.unit.Slot.{Slot}
use Rattle.breakpoint_eval.specs.Names.{is_called, local_named}
use Rattle.breakpoint_eval.proofs.naming.local_named.Given as goal

abbrev pub invariant-loop-i : goal.invariant-loop-i
invariant-loop-i l = position_from (λ (s : Slot). is_called l.name s.name) l.i (drop l.i l.slots) ≡ local_named l.slots l.name
