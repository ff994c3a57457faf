use Rattle.std.proofs.Common.{◌≡◌, map, take, drop}
use Rattle.c_check.specs.Bodies.{args_faults, expr_of}
use Rattle.c_check.proofs.exprs.«+expr».Given as goal

abbrev pub invariant-exprs-loop-one : goal.invariant-exprs-loop-one
invariant-exprs-loop-one l = record {
  faults : args_faults l.file l.body l.fn.raw ≡ args_faults l.file l.body (drop l.one-index l.raw);
  made : l.list ≡ map (expr_of l.file l.body) (take l.one-index l.raw);
}
