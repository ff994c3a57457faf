use Rattle.std.proofs.Common.{◌≡◌, ◌++◌, drop}
use Rattle.state_dom.specs.StateValue.{slots_of}
use Rattle.edition_core.specs.Printed as spec
use Rattle.edition_core.proofs.printed.push_slots.Given as goal

abbrev pub invariant-loop-i : goal.invariant-loop-i
invariant-loop-i l = l.out.items ++ spec.slots_text (drop l.i l.labels) (drop l.i (slots_of l.state)) ≡ l.fn.out.items ++ spec.slots_text l.labels (slots_of l.state)
