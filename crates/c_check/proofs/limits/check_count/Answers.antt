use Rattle.std.proofs.Common.{◌+◌, ◌≤◌, length, drop, arith}
use Rattle.std.proofs.lemmas.Result.{err_from_is_err_and}
use Rattle.c_check.proofs.Listed.{from_here, nothing_behind}
use Rattle.std.specs.List.{flat_map}
use Rattle.std.specs.Option.{option_to_list}
use Rattle.c_check.specs.Stages.{counted_place}
use Rattle.c_check.proofs.Counting.{counted_next, counted_fault, counted_end}
use Rattle.c_check.proofs.limits.check_count.Goals as goal

pub returns-in_err-left : goal.returns-in_err-left
returns-in_err-left c =
    let p = err_from_is_err_and c.from_residual.result c.from_residual.ensures.1 in
    rw (p.1, p.2) (counted_fault (counted_place c.args.counted) c.args.limit _ c.args.items.now (drop c.loop-item.item-index c.args.items.now) (drop (c.loop-item.item-index + 1) c.args.items.now) c.item-item.result c.loop-item.left (option_to_list c.counted_place-place.result) c.loop-item.invariant (from_here c.args.items.now c.loop-item.item-index c.item-item.result c.loop-item-test.true c.item-item.is) c.counted_place-place.ensures
    (c.in_err-left.ensures (flat_map (counted_place c.args.counted) (drop (c.loop-item.item-index + 1) c.args.items.now))))

pub loop-item-preserved : goal.loop-item-preserved
loop-item-preserved c =
    counted_next (counted_place c.args.counted) c.args.limit c.args.items.now (drop c.loop-item.item-index c.args.items.now) (drop (c.loop-item.item-index + 1) c.args.items.now) c.item-item.result c.loop-item.left _ (option_to_list c.counted_place-place.result) c.loop-item.invariant (from_here c.args.items.now c.loop-item.item-index c.item-item.result c.loop-item-test.true c.item-item.is) c.counted_place-place.ensures
    (c.in_ok-left.ensures (flat_map (counted_place c.args.counted) (drop (c.loop-item.item-index + 1) c.args.items.now)))

pub returns : goal.returns
returns c =
    let h : length c.args.items.now ≤ c.loop-item.item-index = omega arith in
    counted_end (counted_place c.args.counted) c.args.limit c.args.items.now (drop c.loop-item.item-index c.args.items.now) c.loop-item.left c.loop-item.invariant (nothing_behind c.args.items.now c.loop-item.item-index h)
