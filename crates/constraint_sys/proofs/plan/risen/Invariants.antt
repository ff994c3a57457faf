use Rattle.std.proofs.Common.{◌↔◌, take}
use Rattle.std.specs.Prelude.{Contains}
use Rattle.constraint_sys.proofs.Rising.{IsUnbounded}
use Rattle.constraint_sys.specs.declared.unknown.Unknown.{Unknown}
use Rattle.constraint_sys.proofs.plan.risen.Given as goal

abbrev pub invariant-loop-e : goal.invariant-loop-e
invariant-loop-e l = (r : Unknown) → Contains l.rose.items r ↔ IsUnbounded l.table (take l.e-index l.e-items) r
