use Rattle.breakpoint_eval.proofs.Watched as watched
use Rattle.breakpoint_eval.proofs.law.stops_drop_nothing.Goals as goal

pub returns : goal.returns
returns c = watched.stops_drop_nothing
