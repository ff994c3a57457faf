use Rattle.readings_law.proofs.Expressions.{expressions_spell, expressions_dont_spell}
use Rattle.readings_law.proofs.by_hand.expressions_by_hand.Goals as goal

pub returns-clause-spelled : goal.returns-clause-spelled
returns-clause-spelled c = expressions_spell

pub returns-clause-refused : goal.returns-clause-refused
returns-clause-refused c = expressions_dont_spell
