use Rattle.c_check.proofs.OneOutcome.{one_source, one_first, not_both}
use Rattle.c_check.proofs.law.one_outcome.Goals as goal

pub returns-clause-source : goal.returns-clause-source
returns-clause-source c = one_source

pub returns-clause-fault : goal.returns-clause-fault
returns-clause-fault c = one_first

pub returns-clause-either : goal.returns-clause-either
returns-clause-either c = not_both
