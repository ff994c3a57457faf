use Rattle.std.proofs.lemmas.Result.{IfOk-weaker}
use Rattle.c_parse.proofs.HeadExits.{void_function_found}
use Rattle.c_parse.proofs.head.voided.Goals as goal

pub returns-in_ok-rest-in-Name-clause-found : goal.returns-in_ok-rest-in-Name-clause-found
returns-in_ok-rest-in-Name-clause-found c = IfOk-weaker c.params.result _ _ (λ read d. void_function_found c.in-Some.ensures.cases.0 c.in-Name.is c.in_ok-name-in-Name.ensures.name c.in_ok-rest-in-Name.ensures.found c.head_of-head.ensures d) c.params.ensures.found
