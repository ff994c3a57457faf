use Rattle.abs_stepper.proofs.Callers.{top_at_last}
use Rattle.abs_stepper.proofs.statements.top_vertex.Goals as goal

pub returns : goal.returns
returns c = top_at_last c.args.stack.now c.top-item.result c.in-len1-up.len_at_least c.top-item.is
