use Rattle.state_dom.proofs.Narrowing as narrowing
use Rattle.state_dom.proofs.law.guard_narrows.Goals as goal

pub returns : goal.returns
returns c = narrowing.guard_narrows
