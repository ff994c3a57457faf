use Rattle.c_meaning.proofs.Evaluation.{expressions}
use Rattle.state_dom.specs.Evaluation.{guarded_by, interval_of, reading_of}
use Rattle.state_dom.proofs.examples.guards_by_hand.Goals as goal

pub returns-clause-less : goal.returns-clause-less
returns-clause-less c = simp (expressions, guarded_by, interval_of, reading_of)

pub returns-clause-not_less : goal.returns-clause-not_less
returns-clause-not_less c = simp (expressions, guarded_by, interval_of, reading_of)

pub returns-clause-itself : goal.returns-clause-itself
returns-clause-itself c = simp (expressions, guarded_by, interval_of, reading_of)

pub returns-clause-equal : goal.returns-clause-equal
returns-clause-equal c = simp (expressions, guarded_by, interval_of, reading_of)

pub returns-clause-either : goal.returns-clause-either
returns-clause-either c = simp (expressions, guarded_by, interval_of, reading_of)

pub returns-clause-not_inside : goal.returns-clause-not_inside
returns-clause-not_inside c = simp (expressions, guarded_by, interval_of, reading_of)

pub returns-clause-local : goal.returns-clause-local
returns-clause-local c = simp (expressions, guarded_by, interval_of, reading_of)

pub returns-clause-no_value : goal.returns-clause-no_value
returns-clause-no_value c = simp (expressions, guarded_by, interval_of, reading_of)
