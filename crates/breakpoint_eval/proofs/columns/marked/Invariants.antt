use Rattle.std.proofs.Common.{◌≡◌, ◌++◌, drop}
use Rattle.breakpoint_eval.specs.Columns.{kept}
use Rattle.breakpoint_eval.proofs.columns.marked.Given as goal

abbrev pub invariant-loop-i : goal.invariant-loop-i
invariant-loop-i l = l.left ++ kept (drop l.i l.vertices) (drop l.i l.marks) ≡ kept l.vertices l.marks
