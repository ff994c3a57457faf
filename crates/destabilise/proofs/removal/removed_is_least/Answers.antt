use Rattle.destabilise.proofs.Removing.{removed_is_least}
use Rattle.destabilise.proofs.removal.removed_is_least.Goals as goal

pub returns : goal.returns
returns c = removed_is_least
