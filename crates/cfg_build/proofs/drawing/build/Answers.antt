use Rattle.std.proofs.Common.{ap, length}
use Rattle.std.proofs.lemmas.Result.{err_from_is_err_and}
use Rattle.cfg_build.proofs.Growth.{limit_told, named_count, within_told}
use Rattle.cfg_build.proofs.drawing.build.Goals as goal

pub returns-in_err-draw-clause-limit : goal.returns-in_err-draw-clause-limit
returns-in_err-draw-clause-limit c =
    let p = err_from_is_err_and c.from_residual.result c.from_residual.ensures.1 in
    rw (p.1, p.2) (limit_told c.args.function.now _ c.in_err-draw.ensures.limit)

pub returns-clause-within : goal.returns-clause-within
returns-clause-within c =
    within_told c.in_ok-slots.slots c.as_slice.result.now c.into_parts-parts.result.nodes c.into_parts-parts.result.temps c.as_slice-2.result.now c.in_ok-draw.field-0.flow (length c.args.function.now.slots)
    (named_count c.args.function.now c.in_ok-draw.field-0.flow c.in_ok-draw.ensures.ok) (ap length c.as_slice.ensures)
    c.into_parts-parts.ensures.nodes c.into_parts-parts.ensures.temps c.as_slice-2.ensures c.in_ok-slots.ensures c.into_parts-parts.ensures.within
