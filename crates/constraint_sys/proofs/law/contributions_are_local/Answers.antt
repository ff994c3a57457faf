use Rattle.constraint_sys.proofs.Locality.{contribution-local}
use Rattle.constraint_sys.proofs.law.contributions_are_local.Goals as goal

pub returns : goal.returns
returns c = λ p old new f key node same. contribution-local p old new f key node same
