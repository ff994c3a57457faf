use Rattle.std.proofs.Common.{◌+◌, ◌-◌, ◌*◌, length}
use Rattle.dap_frame.specs.Scan.{HasScanned, contents, places, weight}
use Rattle.dap_frame.proofs.scan.read_on.Given as goal

abbrev pub invariant-loop-messages : goal.invariant-loop-messages
invariant-loop-messages l = HasScanned l.fn.origin l.fn.header l.bytes (contents l.messages.items) (places l.messages.items) l.start l.header l.at

abbrev pub decreases-loop-messages : goal.decreases-loop-messages
decreases-loop-messages l = 2 * (length l.bytes - l.at) + weight l.header
