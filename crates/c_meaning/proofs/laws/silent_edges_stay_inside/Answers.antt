use Rattle.c_meaning.proofs.SilentStmts as laws
use Rattle.c_meaning.proofs.laws.silent_edges_stay_inside.Goals as goal

pub returns : goal.returns
returns c = laws.silent_edges_stay_inside
