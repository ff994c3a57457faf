use Rattle.std.proofs.Common.{◌+◌, ◌≤◌, length, drop, arith}
use Rattle.std.proofs.lemmas.Result.{err_from_is_err_and}
use Rattle.c_check.proofs.Listed.{from_here, nothing_behind}
use Rattle.c_check.proofs.Making.{items_fault, items_next, items_end}
use Rattle.c_check.proofs.units.Making.add_items.Goals as goal

pub returns-in_err-add_item : goal.returns-in_err-add_item
returns-in_err-add_item c =
    let p = err_from_is_err_and c.from_residual.result c.from_residual.ensures.1 in
    rw (p.1, p.2) (items_fault _ c.args.items.now (drop c.loop-item.item-index c.args.items.now) (drop (c.loop-item.item-index + 1) c.args.items.now) c.item-item.result c.args.self.now c.loop-item.self c.loop-item.invariant (from_here c.args.items.now c.loop-item.item-index c.item-item.result c.loop-item-test.true c.item-item.is) c.in_err-add_item.ensures)

pub loop-item-preserved : goal.loop-item-preserved
loop-item-preserved c =
    items_next c.args.items.now (drop c.loop-item.item-index c.args.items.now) (drop (c.loop-item.item-index + 1) c.args.items.now) c.item-item.result c.args.self.now c.loop-item.self _ c.loop-item.invariant (from_here c.args.items.now c.loop-item.item-index c.item-item.result c.loop-item-test.true c.item-item.is) c.in_ok-add_item.ensures

pub returns : goal.returns
returns c =
    let h : length c.args.items.now ≤ c.loop-item.item-index = omega arith in
    items_end c.args.items.now (drop c.loop-item.item-index c.args.items.now) c.args.self.now c.loop-item.self c.loop-item.invariant (nothing_behind c.args.items.now c.loop-item.item-index h)
