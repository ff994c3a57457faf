use Rattle.std.proofs.lemmas.Result.{err_from_is_err_and, IfOk-weaker, IfErr-weaker}
use Rattle.c_parse.proofs.HeadExits.{some_params_found, some_params_stop, some_params_more_stop}
use Rattle.c_parse.proofs.head.params.Goals as goal

pub returns-in_err-now-in_default-kind : goal.returns-in_err-now-in_default-kind
returns-in_err-now-in_default-kind c =
    let p = err_from_is_err_and c.from_residual-in_err-now-in_default-kind.result c.from_residual-in_err-now-in_default-kind.ensures.1 in
    rw (p.1, p.2) (record { found = tt; stop = some_params_stop c.in-Some.ensures.cases.0 c.in_default-kind.not-CloseParen c.in_default-kind.not-Void c.in_err-now-in_default-kind.ensures.stop })

pub returns-in_ok-now-in_default-kind : goal.returns-in_ok-now-in_default-kind
returns-in_ok-now-in_default-kind c = record {
  found = IfOk-weaker c.more_params.result _ _ (λ read d. some_params_found c.in_ok-now-in_default-kind.ensures.found d) c.more_params.ensures.found;
  stop = IfErr-weaker c.more_params.result _ _ (λ s b. some_params_more_stop c.in-Some.ensures.cases.0 c.in_default-kind.not-CloseParen c.in_default-kind.not-Void c.in_ok-now-in_default-kind.ensures.found b) c.more_params.ensures.stop;
}
