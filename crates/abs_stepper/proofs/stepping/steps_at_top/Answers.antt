use Rattle.std.proofs.Common.{◌∙◌, sym, ap}
use Rattle.arg_graph.specs.Graphs.{offered_in}
use Rattle.abs_stepper.specs.Stepping.{steps_at_top}
use Rattle.abs_stepper.proofs.Callers.{top_at_last}
use Rattle.abs_stepper.proofs.stepping.steps_at_top.Goals as goal

pub returns-in-len1-up : goal.returns-in-len1-up
returns-in-len1-up c = c.out.ensures ∙ sym (ap (steps_at_top (offered_in c.args.graph.now)) (top_at_last c.args.stack.now c.top-item.result c.in-len1-up.len_at_least c.top-item.is))
