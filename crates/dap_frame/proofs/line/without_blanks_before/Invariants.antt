use Rattle.std.proofs.Common.{◌≡◌, length}
use Rattle.dap_frame.specs.Line.{drop_blanks}
use Rattle.dap_frame.proofs.line.without_blanks_before.Given as goal

abbrev pub invariant-loop-value : goal.invariant-loop-value
invariant-loop-value l = drop_blanks l.value ≡ drop_blanks l.fn.value

abbrev pub decreases-loop-value : goal.decreases-loop-value
decreases-loop-value l = length l.value
