use Rattle.constraint_sys.proofs.Replaying.{Replays-push}
use Rattle.constraint_sys.proofs.law.replays_go_on.Goals as goal

pub returns : goal.returns
returns c = Replays-push
