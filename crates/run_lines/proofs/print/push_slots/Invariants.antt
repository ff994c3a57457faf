use Rattle.std.proofs.Common.{◌≡◌, ◌++◌, drop}
use Rattle.run_lines.specs.Lines as spec
use Rattle.run_lines.proofs.print.push_slots.Given as goal

abbrev pub invariant-loop-x : goal.invariant-loop-x
invariant-loop-x l = l.out.items ++ spec.slots_text l.x (drop l.x l.labels) l.values ≡ l.fn.out.items ++ spec.slots_text 0 l.labels l.values
