use Rattle.walk_law.proofs.Walking as walking
use Rattle.walk_law.proofs.law.walks_are_offered.Goals as goal

pub returns : goal.returns
returns c = walking.walks_are_offered
