use Rattle.std.proofs.Common.{◌<◌, length, arith}
use Rattle.c_check.proofs.Counting.{ninth_told}
use Rattle.c_check.proofs.limits.check_params.Goals as goal

pub returns-then-params-gt8 : goal.returns-then-params-gt8
returns-then-params-gt8 c =
    let h : 8 < length c.args.params.now = omega arith in
    ninth_told c.fault_at.result c.args.place c.param_place-place.result c.args.params.now c.index-params-8.result h c.index-params-8.is c.param_place-place.ensures c.fault_at.ensures
