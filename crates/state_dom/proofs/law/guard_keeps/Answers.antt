use Rattle.state_dom.proofs.Keeping as keeping
use Rattle.state_dom.proofs.law.guard_keeps.Goals as goal

pub returns : goal.returns
returns c = keeping.guard_keeps
