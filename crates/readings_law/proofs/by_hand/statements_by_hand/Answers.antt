use Rattle.readings_law.proofs.Statements.{statements_spell, statements_dont_spell}
use Rattle.readings_law.proofs.by_hand.statements_by_hand.Goals as goal

pub returns-clause-spelled : goal.returns-clause-spelled
returns-clause-spelled c = statements_spell

pub returns-clause-refused : goal.returns-clause-refused
returns-clause-refused c = statements_dont_spell
