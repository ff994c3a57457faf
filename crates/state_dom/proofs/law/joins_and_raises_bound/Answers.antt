use Rattle.state_dom.proofs.Rests.{raise_rests}
use Rattle.state_dom.proofs.Ordering.{CoversState-join, CoversState-raise}
use Rattle.state_dom.proofs.law.joins_and_raises_bound.Goals as goal

pub returns-clause-join : goal.returns-clause-join
returns-clause-join c = CoversState-join

pub returns-clause-raise : goal.returns-clause-raise
returns-clause-raise c = CoversState-raise

pub returns-clause-rests : goal.returns-clause-rests
returns-clause-rests c = raise_rests
