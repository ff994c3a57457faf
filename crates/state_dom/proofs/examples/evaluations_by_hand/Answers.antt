use Rattle.c_meaning.proofs.Evaluation.{expressions}
use Rattle.state_dom.specs.Evaluation.{guarded_by, interval_of, reading_of}
use Rattle.state_dom.proofs.examples.evaluations_by_hand.Goals as goal

pub returns-clause-long_sum : goal.returns-clause-long_sum
returns-clause-long_sum c = simp (expressions, guarded_by, interval_of, reading_of)

pub returns-clause-int_sum : goal.returns-clause-int_sum
returns-clause-int_sum c = simp (expressions, guarded_by, interval_of, reading_of)

pub returns-clause-and_maybe : goal.returns-clause-and_maybe
returns-clause-and_maybe c = simp (expressions, guarded_by, interval_of, reading_of)

pub returns-clause-and_never : goal.returns-clause-and_never
returns-clause-and_never c = simp (expressions, guarded_by, interval_of, reading_of)

pub returns-clause-or_maybe : goal.returns-clause-or_maybe
returns-clause-or_maybe c = simp (expressions, guarded_by, interval_of, reading_of)

pub returns-clause-or_never : goal.returns-clause-or_never
returns-clause-or_never c = simp (expressions, guarded_by, interval_of, reading_of)
