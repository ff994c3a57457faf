use Rattle.arg_chain.proofs.Choosing.{step_is_least}
use Rattle.arg_chain.proofs.least.least_step.Goals as goal

pub returns : goal.returns
returns c = step_is_least c.args.steps.now c.args.known.now c.args.d (record { edge = c.least_edge-edge.result; to = c.least_target-to.result }) c.least_target-to.ensures c.least_edge-edge.ensures
