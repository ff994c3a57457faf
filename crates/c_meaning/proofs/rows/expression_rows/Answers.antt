use Rattle.c_meaning.proofs.RowProofs as rows
use Rattle.c_meaning.proofs.rows.expression_rows.Goals as goal

pub returns-clause-widths : goal.returns-clause-widths
returns-clause-widths c = rows.width_rows

pub returns-clause-values : goal.returns-clause-values
returns-clause-values c = rows.demand_rows
