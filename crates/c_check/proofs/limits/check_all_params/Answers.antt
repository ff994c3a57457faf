use Rattle.std.proofs.Common.{◌+◌, ◌≤◌, length, drop, arith}
use Rattle.std.proofs.lemmas.Result.{err_from_is_err_and}
use Rattle.c_check.proofs.Listed.{from_here, nothing_behind}
use Rattle.c_check.specs.Units.{param_limit_faults}
use Rattle.c_check.proofs.Counting.{each_next, each_fault, each_end}
use Rattle.c_check.proofs.limits.check_all_params.Goals as goal

pub returns-in_err-check_item_params : goal.returns-in_err-check_item_params
returns-in_err-check_item_params c =
    let p = err_from_is_err_and c.from_residual.result c.from_residual.ensures.1 in
    rw (p.1, p.2) (each_fault param_limit_faults _ c.args.items.now (drop c.loop-item.item-index c.args.items.now) (drop (c.loop-item.item-index + 1) c.args.items.now) c.item-item.result c.loop-item.invariant (from_here c.args.items.now c.loop-item.item-index c.item-item.result c.loop-item-test.true c.item-item.is) c.in_err-check_item_params.ensures)

pub loop-item-preserved : goal.loop-item-preserved
loop-item-preserved c =
    each_next param_limit_faults c.args.items.now (drop c.loop-item.item-index c.args.items.now) (drop (c.loop-item.item-index + 1) c.args.items.now) c.item-item.result c.loop-item.invariant (from_here c.args.items.now c.loop-item.item-index c.item-item.result c.loop-item-test.true c.item-item.is) c.in_ok-check_item_params.ensures

pub returns : goal.returns
returns c =
    let h : length c.args.items.now ≤ c.loop-item.item-index = omega arith in
    each_end param_limit_faults c.args.items.now (drop c.loop-item.item-index c.args.items.now) c.loop-item.invariant (nothing_behind c.args.items.now c.loop-item.item-index h)
