use Rattle.c_meaning.proofs.Settling as laws
use Rattle.c_meaning.proofs.laws.silent_edges_run_out.Goals as goal

pub returns : goal.returns
returns c = laws.silent_edges_run_out
