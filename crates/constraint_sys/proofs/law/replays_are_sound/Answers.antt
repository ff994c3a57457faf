use Rattle.constraint_sys.proofs.Replaying.{IsSound-replayed, IsTurnable-replayed}
use Rattle.constraint_sys.proofs.law.replays_are_sound.Goals as goal

pub returns-clause-sound : goal.returns-clause-sound
returns-clause-sound c = IsSound-replayed

pub returns-clause-turnable : goal.returns-clause-turnable
returns-clause-turnable c = IsTurnable-replayed
