use Rattle.std.proofs.Common.{◌+◌, ◌≤◌, length, drop, arith}
use Rattle.c_check.proofs.Listed.{from_here, nothing_behind}
use Rattle.c_check.proofs.Making.{definitions_next, definitions_end}
use Rattle.c_check.proofs.units.definitions_of.Goals as goal

pub loop-item-preserved : goal.loop-item-preserved
loop-item-preserved c =
    definitions_next c.args.items.now (drop c.loop-item.item-index c.args.items.now) (drop (c.loop-item.item-index + 1) c.args.items.now) c.item-item.result c.loop-item.list _ c.loop-item.invariant (from_here c.args.items.now c.loop-item.item-index c.item-item.result c.loop-item-test.true c.item-item.is) c.in_ok-add_definition.ensures

pub returns : goal.returns
returns c =
    let h : length c.args.items.now ≤ c.loop-item.item-index = omega arith in
    definitions_end c.args.items.now (drop c.loop-item.item-index c.args.items.now) c.loop-item.list c.loop-item.invariant (nothing_behind c.args.items.now c.loop-item.item-index h)
