use Rattle.step_law.proofs.Keeping as keeping
use Rattle.step_law.proofs.law.choices_keep_together.Goals as goal

pub returns-clause-first : goal.returns-clause-first
returns-clause-first c = keeping.first_together

pub returns-clause-choices : goal.returns-clause-choices
returns-clause-choices c = keeping.choices_keep_together
