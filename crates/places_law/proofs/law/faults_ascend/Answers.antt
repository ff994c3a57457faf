use Rattle.places_law.proofs.Least.{faults_ascend, first_is_least}
use Rattle.places_law.proofs.law.faults_ascend.Goals as goal

pub returns-clause-ascend : goal.returns-clause-ascend
returns-clause-ascend c = faults_ascend

pub returns-clause-least : goal.returns-clause-least
returns-clause-least c = first_is_least
