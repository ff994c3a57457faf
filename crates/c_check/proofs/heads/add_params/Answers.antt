use Rattle.std.proofs.Common.{◌+◌, ◌≤◌, length, drop, arith}
use Rattle.std.proofs.lemmas.Result.{err_from_is_err_and}
use Rattle.c_check.proofs.Listed.{from_here, nothing_behind}
use Rattle.c_check.proofs.Parameters.{params_fault, params_next, params_end}
use Rattle.c_check.proofs.heads.add_params.Goals as goal

pub returns-in_err-add_param : goal.returns-in_err-add_param
returns-in_err-add_param c =
    let p = err_from_is_err_and c.from_residual.result c.from_residual.ensures.1 in
    rw (p.1, p.2) (params_fault _ c.args.params.now (drop c.loop-param.param-index c.args.params.now) (drop (c.loop-param.param-index + 1) c.args.params.now) c.param-item.result c.args.body.now c.loop-param.body
    c.loop-param.invariant (from_here c.args.params.now c.loop-param.param-index c.param-item.result c.loop-param-test.true c.param-item.is) c.in_err-add_param.ensures)

pub loop-param-preserved : goal.loop-param-preserved
loop-param-preserved c =
    params_next c.args.params.now (drop c.loop-param.param-index c.args.params.now) (drop (c.loop-param.param-index + 1) c.args.params.now) c.param-item.result c.args.body.now c.loop-param.body _
    c.loop-param.invariant (from_here c.args.params.now c.loop-param.param-index c.param-item.result c.loop-param-test.true c.param-item.is) c.in_ok-add_param.ensures

pub returns : goal.returns
returns c =
    let h : length c.args.params.now ≤ c.loop-param.param-index = omega arith in
    params_end c.args.params.now (drop c.loop-param.param-index c.args.params.now) c.args.body.now c.loop-param.body c.loop-param.invariant (nothing_behind c.args.params.now c.loop-param.param-index h)
