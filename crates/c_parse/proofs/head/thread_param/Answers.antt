use Rattle.std.proofs.lemmas.Result.{IfOk-weaker}
use Rattle.c_parse.proofs.HeadExits.{named_thread_found}
use Rattle.c_parse.proofs.head.thread_param.Goals as goal

pub returns-in_ok-head-in-Name-clause-found : goal.returns-in_ok-head-in-Name-clause-found
returns-in_ok-head-in-Name-clause-found c = IfOk-weaker c.after_head.result _ _ (λ read d. named_thread_found c.in-Some.ensures.cases.0 c.in-Name.is c.in_ok-param-in-Name.ensures.name c.in_ok-rest-in-Name.ensures.found c.in_ok-head-in-Name.ensures.head d) c.after_head.ensures.found
