use Rattle.std.proofs.Common.{◌≡◌, ◌++◌, drop}
use Rattle.edition_core.specs.Printed as spec
use Rattle.edition_core.proofs.printed.push_lines.Given as goal

abbrev pub invariant-loop-u : goal.invariant-loop-u
invariant-loop-u l = l.out.items ++ spec.lines_of l.program l.table (drop l.u-index l.order) ≡ l.fn.out.items ++ spec.lines_of l.program l.table l.order
