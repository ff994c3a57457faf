use Rattle.std.proofs.Common.{sym}
use Rattle.abs_stepper.proofs.Callers.{caller_at, no_caller}
use Rattle.abs_stepper.proofs.stepping.caller_of.Goals as goal

pub returns-in_default : goal.returns-in_default
returns-in_default c = sym (no_caller c.args.stack.now c.in_default.len_below)

pub returns-in-len2-up : goal.returns-in-len2-up
returns-in-len2-up c = sym (caller_at c.args.stack.now c.caller-item.result c.in-len2-up.len_at_least c.caller-item.is)
