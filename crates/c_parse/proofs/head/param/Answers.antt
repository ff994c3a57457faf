use Rattle.c_parse.proofs.HeadExits.{named_param_found, unnamed_param_found, param_end_stop}
use Rattle.c_parse.proofs.head.param.Goals as goal

pub returns-in_default-clause-stop : goal.returns-in_default-clause-stop
returns-in_default-clause-stop c = param_end_stop c.in_ok-width.ensures.found c.in_default.ensures.cases

pub returns-in_ok-head-in-Name-clause-found : goal.returns-in_ok-head-in-Name-clause-found
returns-in_ok-head-in-Name-clause-found c = named_param_found c.in_ok-width.ensures.found c.in-Some.ensures.cases.0 c.in-Name.is c.in_ok-name-in-Name.ensures.name c.in_ok-head-in-Name.ensures.head

pub returns-in_ok-head-in_default-kind : goal.returns-in_ok-head-in_default-kind
returns-in_ok-head-in_default-kind c = record { found = unnamed_param_found c.in_ok-width.ensures.found c.in-Some.ensures.cases.0 c.in_default-kind.not-Name c.in_ok-head-in_default-kind.ensures.head; stop = tt }
