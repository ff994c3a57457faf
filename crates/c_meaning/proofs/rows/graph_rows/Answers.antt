use Rattle.c_meaning.proofs.RowProofs as rows
use Rattle.c_meaning.proofs.rows.graph_rows.Goals as goal

pub returns-clause-expressions : goal.returns-clause-expressions
returns-clause-expressions c = rows.hoist_rows

pub returns-clause-statements : goal.returns-clause-statements
returns-clause-statements c = rows.lower_rows
