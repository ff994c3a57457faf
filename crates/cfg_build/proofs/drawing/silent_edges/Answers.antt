use Rattle.std.proofs.lemmas.Result.{err_from_is_err_and}
use Rattle.cfg_build.proofs.Growth.{limit_told}
use Rattle.cfg_build.proofs.drawing.silent_edges.Goals as goal

pub returns-in_err-draw-clause-limit : goal.returns-in_err-draw-clause-limit
returns-in_err-draw-clause-limit c =
    let p = err_from_is_err_and c.from_residual.result c.from_residual.ensures.1 in
    rw (p.1, p.2) (limit_told c.args.function.now _ c.in_err-draw.ensures.limit)
