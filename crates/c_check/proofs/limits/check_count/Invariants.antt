use Rattle.std.proofs.Common.{◌≡◌, drop}
use Rattle.std.specs.List.{flat_map}
use Rattle.c_check.specs.Stages.{counted_place}
use Rattle.c_check.specs.Units.{over}
use Rattle.c_check.proofs.limits.check_count.Given as goal

abbrev pub invariant-loop-item : goal.invariant-loop-item
invariant-loop-item l = over l.limit (flat_map (counted_place l.counted) l.items) ≡ over l.left (flat_map (counted_place l.counted) (drop l.item-index l.items))
