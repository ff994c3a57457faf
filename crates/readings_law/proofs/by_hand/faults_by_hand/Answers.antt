use Rattle.readings_law.proofs.Faults.{faults_are_told, no_other_faults}
use Rattle.readings_law.proofs.by_hand.faults_by_hand.Goals as goal

pub returns-clause-told : goal.returns-clause-told
returns-clause-told c = faults_are_told

pub returns-clause-others : goal.returns-clause-others
returns-clause-others c = no_other_faults
