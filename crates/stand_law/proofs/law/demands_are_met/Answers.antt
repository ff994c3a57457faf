use Rattle.stand_law.proofs.Standing as standing
use Rattle.stand_law.proofs.law.demands_are_met.Goals as goal

pub returns-clause-values : goal.returns-clause-values
returns-clause-values c = standing.values_are_there

pub returns-clause-missing : goal.returns-clause-missing
returns-clause-missing c = standing.missing_is_awaited
