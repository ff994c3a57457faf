use Rattle.readings_law.proofs.Units.{units_spell, units_dont_spell}
use Rattle.readings_law.proofs.by_hand.units_by_hand.Goals as goal

pub returns-clause-spelled : goal.returns-clause-spelled
returns-clause-spelled c = units_spell

pub returns-clause-refused : goal.returns-clause-refused
returns-clause-refused c = units_dont_spell
