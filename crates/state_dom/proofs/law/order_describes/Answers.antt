use Rattle.state_dom.proofs.Ordering.{DescribesState-covered, CoversState-trans}
use Rattle.state_dom.proofs.law.order_describes.Goals as goal

pub returns-clause-described : goal.returns-clause-described
returns-clause-described c = DescribesState-covered

pub returns-clause-transitive : goal.returns-clause-transitive
returns-clause-transitive c = CoversState-trans
