use Rattle.std.proofs.Common.{◌≡◌, drop}
use Rattle.std.specs.Cmp.Lexicographic.{pointwise}
use Rattle.gob_tree.specs.Widths.{same_width}
use Rattle.c_check.proofs.heads.same_widths.Given as goal

abbrev pub invariant-loop-i : goal.invariant-loop-i
invariant-loop-i l = pointwise same_width l.a l.b ≡ pointwise same_width (drop l.i l.a) (drop l.i l.b)
