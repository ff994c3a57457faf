use Rattle.carry_law.proofs.Begins.{carried_sound}
use Rattle.carry_law.proofs.law.carried_is_sound.Goals as goal

pub returns : goal.returns
returns c = λ old new t s old_formed new_formed shaped post carries. carried_sound old new old_formed new_formed t shaped post s carries
