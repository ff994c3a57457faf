use Rattle.breakpoint_eval.proofs.Parting as parting
use Rattle.breakpoint_eval.proofs.law.stops_come_one_by_one.Goals as goal

pub returns : goal.returns
returns c = parting.stops_come_one_by_one
