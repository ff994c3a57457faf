use Rattle.std.proofs.Common.{◌-◌, length}
use Rattle.dap_frame.specs.Scan.{HasRead}
use Rattle.dap_frame.proofs.scan.read_lines.Given as goal

abbrev pub invariant-loop-header : goal.invariant-loop-header
invariant-loop-header l = HasRead l.fn.header l.bytes l.header l.at

abbrev pub decreases-loop-header : goal.decreases-loop-header
decreases-loop-header l = length l.bytes - l.at
