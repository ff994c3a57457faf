use Rattle.constraint_sys.proofs.Turning.{IsSound-turned}
use Rattle.constraint_sys.proofs.law.turns_keep_sound.Goals as goal

pub returns : goal.returns
returns c = IsSound-turned
