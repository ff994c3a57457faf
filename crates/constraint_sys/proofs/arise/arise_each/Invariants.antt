use Rattle.std.proofs.Common.{◌≡◌, ◌++◌, drop}
use Rattle.std.specs.Prelude.{All}
use Rattle.constraint_sys.specs.Arising.{CanRaise, arisen_in_each}
use Rattle.constraint_sys.specs.Table.{TableValue}
use Rattle.constraint_sys.proofs.arise.arise_each.Given as goal

abbrev pub invariant-loop-e : goal.invariant-loop-e
invariant-loop-e l = record {
  can : All (CanRaise l.program l.table) (drop l.e-index l.raises);
  arisen : arisen_in_each l.program l.table (drop l.e-index l.raises) ≡ arisen_in_each l.program l.fn.table l.raises;
  begins : (more : TableValue) × (l.table ≡ l.fn.table ++ more);
}
