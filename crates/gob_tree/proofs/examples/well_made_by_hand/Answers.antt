use Rattle.gob_tree.proofs.WellMadeProofs as proofs
use Rattle.gob_tree.proofs.examples.well_made_by_hand.Goals as goal

pub returns-clause-unit : goal.returns-clause-unit
returns-clause-unit c = proofs.good_unit_made

pub returns-clause-expressions : goal.returns-clause-expressions
returns-clause-expressions c = proofs.good_exprs_made

pub returns-clause-wrong_expressions : goal.returns-clause-wrong_expressions
returns-clause-wrong_expressions c = proofs.bad_exprs_refused

pub returns-clause-statements : goal.returns-clause-statements
returns-clause-statements c = proofs.good_stmts_made

pub returns-clause-wrong_statements : goal.returns-clause-wrong_statements
returns-clause-wrong_statements c = proofs.bad_stmts_refused

pub returns-clause-no_return : goal.returns-clause-no_return
returns-clause-no_return c = proofs.no_return
