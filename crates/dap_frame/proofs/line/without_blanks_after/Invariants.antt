use Rattle.std.proofs.Common.{◌≡◌, length, reverse}
use Rattle.dap_frame.specs.Line.{drop_blanks}
use Rattle.dap_frame.proofs.line.without_blanks_after.Given as goal

abbrev pub invariant-loop-value : goal.invariant-loop-value
invariant-loop-value l = drop_blanks (reverse l.value) ≡ drop_blanks (reverse l.fn.value)

abbrev pub decreases-loop-value : goal.decreases-loop-value
decreases-loop-value l = length l.value
