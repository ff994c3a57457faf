use Rattle.post_check.proofs.OneFirst.{same_breach, same_first}
use Rattle.post_check.proofs.law.first_breach_is_one.Goals as goal

pub returns-clause-unknown : goal.returns-clause-unknown
returns-clause-unknown c = same_first

pub returns-clause-target : goal.returns-clause-target
returns-clause-target c = same_breach
