use Rattle.std.proofs.Common.{drop}
use Rattle.c_check.proofs.Parameters.{ParamsFrom}
use Rattle.c_check.proofs.heads.add_params.Given as goal

abbrev pub invariant-loop-param : goal.invariant-loop-param
invariant-loop-param l = ParamsFrom l.params (drop l.param-index l.params) l.fn.body l.body
