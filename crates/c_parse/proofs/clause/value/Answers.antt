use Rattle.std.proofs.lemmas.Result.{err_from_is_err_and}
use Rattle.c_parse.proofs.ClauseExits.{value_end_stop}
use Rattle.c_parse.proofs.clause.value.Goals as goal

pub returns-in_err-rest-in_default-kind : goal.returns-in_err-rest-in_default-kind
returns-in_err-rest-in_default-kind c =
    let p = err_from_is_err_and c.from_residual-in_err-rest-in_default-kind.result c.from_residual-in_err-rest-in_default-kind.ensures.1 in
    rw (p.1, p.2) (record { found = tt; stop = value_end_stop c.in-Some.ensures.cases.0 c.in_default-kind.not-Semicolon c.in_default-kind.not-Null c.in_ok-value-in_default-kind.ensures.found c.in_err-rest-in_default-kind.ensures.stop })
