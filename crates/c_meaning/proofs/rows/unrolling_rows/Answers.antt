use Rattle.c_meaning.proofs.RowProofs as rows
use Rattle.c_meaning.proofs.rows.unrolling_rows.Goals as goal

pub returns : goal.returns
returns c = rows.unroll_rows
