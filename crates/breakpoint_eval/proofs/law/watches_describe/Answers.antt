use Rattle.breakpoint_eval.proofs.Watched as watched
use Rattle.breakpoint_eval.proofs.law.watches_describe.Goals as goal

pub returns : goal.returns
returns c = watched.watches_describe
