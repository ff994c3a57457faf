use Rattle.state_dom.proofs.Assigning as assigning
use Rattle.state_dom.proofs.law.assignment_describes.Goals as goal

pub returns : goal.returns
returns c = assigning.assignment_describes
