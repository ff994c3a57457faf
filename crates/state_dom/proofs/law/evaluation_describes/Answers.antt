use Rattle.state_dom.proofs.Evaluating as evaluating
use Rattle.state_dom.proofs.law.evaluation_describes.Goals as goal

pub returns : goal.returns
returns c = evaluating.evaluation_describes
