use Rattle.c_meaning.proofs.Evaluation.{expressions}
use Rattle.state_dom.specs.ThresholdValues.{numbers_of, thresholds_of}
use Rattle.state_dom.proofs.examples.thresholds_by_hand.Goals as goal

pub returns-clause-small : goal.returns-clause-small
returns-clause-small c = simp (expressions, numbers_of, thresholds_of)
