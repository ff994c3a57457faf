use Rattle.std.proofs.Common.{◌≡◌, drop}
use Rattle.std.specs.List.{flat_map}
use Rattle.c_check.specs.Units.{param_limit_faults}
use Rattle.c_check.proofs.limits.check_all_params.Given as goal

abbrev pub invariant-loop-item : goal.invariant-loop-item
invariant-loop-item l = flat_map param_limit_faults l.items ≡ flat_map param_limit_faults (drop l.item-index l.items)
