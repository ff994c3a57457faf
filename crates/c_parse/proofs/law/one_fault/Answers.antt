use Rattle.c_parse.proofs.OneFault.{one_fault, no_fault}
use Rattle.c_parse.proofs.law.one_fault.Goals as goal

pub returns-clause-once : goal.returns-clause-once
returns-clause-once c = one_fault

pub returns-clause-none : goal.returns-clause-none
returns-clause-none c = no_fault
