use Rattle.std.proofs.Common.{◌≡◌, drop}
use Rattle.std.specs.List.{list_any}
use Rattle.c_check.specs.Units.{is_main_function}
use Rattle.c_check.proofs.resolving.check_has_main.Given as goal

abbrev pub invariant-loop-function : goal.invariant-loop-function
invariant-loop-function l = list_any is_main_function l.funcs ≡ list_any is_main_function (drop l.function-index l.funcs)
