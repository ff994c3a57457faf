use Rattle.std.proofs.Common.{◌≡◌, ◌++◌, drop}
use Rattle.edition_core.specs.Printed.{global_lines, printed_globals}
use Rattle.edition_core.proofs.printed.print_globals.Given as goal

abbrev pub invariant-loop-g : goal.invariant-loop-g
invariant-loop-g l = l.out.items ++ global_lines l.table l.g (drop l.g l.program.globals) ≡ printed_globals l.program l.table
