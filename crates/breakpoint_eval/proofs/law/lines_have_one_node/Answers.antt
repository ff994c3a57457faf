use Rattle.breakpoint_eval.proofs.Parting as parting
use Rattle.breakpoint_eval.proofs.law.lines_have_one_node.Goals as goal

pub returns : goal.returns
returns c = parting.lines_have_one_node
