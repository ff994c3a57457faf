use Rattle.std.proofs.Common.{◌≡◌, ◌++◌, drop}
use Rattle.run_lines.specs.Lines as spec
use Rattle.run_lines.proofs.print.push_globals.Given as goal

abbrev pub invariant-loop-g : goal.invariant-loop-g
invariant-loop-g l = l.out.items ++ spec.global_lines l.g (drop l.g l.decls) l.values ≡ l.fn.out.items ++ spec.global_lines 0 l.decls l.values
