use Rattle.c_check.specs.Front.{in_grammar}
use Rattle.c_check.proofs.phases.tree_of.Goals as goal

pub returns-in-Err-clause-fault : goal.returns-in-Err-clause-fault
returns-in-Err-clause-fault c = rw c.parse_fault.ensures (in_grammar c.args.tokens.now c.in-Err.fault c.requires c.in-Err.ensures.fault)
