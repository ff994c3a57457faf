use Rattle.std.proofs.Common.{◌≡◌, ◌+◌, drop}
use Rattle.std.specs.List.{position_or_len}
use Rattle.c_check.specs.Units.{is_main_function}
use Rattle.c_check.proofs.resolving.main_number.Given as goal

abbrev pub invariant-loop-i : goal.invariant-loop-i
invariant-loop-i l = position_or_len is_main_function l.funcs ≡ l.i + position_or_len is_main_function (drop l.i l.funcs)
