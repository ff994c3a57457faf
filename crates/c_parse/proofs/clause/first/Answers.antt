use Rattle.std.proofs.lemmas.Result.{err_from_is_err_and}
use Rattle.c_parse.proofs.ClauseExits.{first_end_stop, simple_first_found}
use Rattle.c_parse.proofs.clause.first.Goals as goal

pub returns-in_err-rest-in_default-kind : goal.returns-in_err-rest-in_default-kind
returns-in_err-rest-in_default-kind c =
    let p = err_from_is_err_and c.from_residual-in_err-rest-in_default-kind.result c.from_residual-in_err-rest-in_default-kind.ensures.1 in
    rw (p.1, p.2) (record { found = tt; stop = first_end_stop c.in-Some.ensures.cases.0 c.in_default-kind.not-Semicolon c.in_default-kind.not-Int c.in_default-kind.not-Long c.in_ok-stmt-in_default-kind.ensures.found c.in_err-rest-in_default-kind.ensures.stop })

pub returns-in_ok-push-in_default-kind : goal.returns-in_ok-push-in_default-kind
returns-in_ok-push-in_default-kind c = record { found = simple_first_found c.in-Some.ensures.cases.0 c.in_ok-stmt-in_default-kind.ensures.found c.in_ok-rest-in_default-kind.ensures.found c.new-list.ensures c.in_ok-push-in_default-kind.ensures.ok; stop = tt }
