use Rattle.constraint_sys.proofs.SoundStart.{IsSound-initial}
use Rattle.constraint_sys.proofs.law.initial_is_sound.Goals as goal

pub returns : goal.returns
returns c = IsSound-initial
