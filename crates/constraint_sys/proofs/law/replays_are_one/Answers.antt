use Rattle.constraint_sys.proofs.Replaying.{Replays-one, Turns-one}
use Rattle.constraint_sys.proofs.law.replays_are_one.Goals as goal

pub returns-clause-turn : goal.returns-clause-turn
returns-clause-turn c = Turns-one

pub returns-clause-replay : goal.returns-clause-replay
returns-clause-replay c = Replays-one
