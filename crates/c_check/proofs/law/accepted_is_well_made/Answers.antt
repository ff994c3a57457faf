use Rattle.c_check.proofs.Spelled.{spelled_unit}
use Rattle.c_check.proofs.WellMade.{made_unit}
use Rattle.c_check.proofs.law.accepted_is_well_made.Goals as goal

pub returns-clause-spelled : goal.returns-clause-spelled
returns-clause-spelled c = spelled_unit

pub returns-clause-made : goal.returns-clause-made
returns-clause-made c = made_unit
