use Rattle.std.proofs.lemmas.Result.{IfOk-weaker}
use Rattle.c_parse.proofs.HeadExits.{last_param_found, params_again, params_run}
use Rattle.c_parse.proofs.head.more_params.Goals as goal

pub returns-in-CloseParen-clause-found : goal.returns-in-CloseParen-clause-found
returns-in-CloseParen-clause-found c = IfOk-weaker c.after_head.result _ _ (λ read d. last_param_found c.loop-token.invariant.reads c.in-Some.ensures.cases.0 c.in-CloseParen.is d) c.after_head.ensures.found

pub loop-token-preserved : goal.loop-token-preserved
loop-token-preserved c = record {
  reads = params_again c.loop-token.invariant.reads c.in-Some.ensures.cases.0 c.in-Comma.is c.in_ok-now-in-Comma.ensures.found;
  runs = params_run c.loop-token.invariant.runs c.in-Some.ensures.cases.0 c.in-Comma.is c.in_ok-now-in-Comma.ensures.found;
}
