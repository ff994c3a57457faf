use Rattle.std.proofs.Common.{◌≡◌, ◌+◌}
use Rattle.std.specs.Arc.{arc_value}
use Rattle.load_tables.specs.Loads.{IsSolvedAt}
use Rattle.load_tables.proofs.load.load_tables.Given as goal

abbrev pub invariant-loop-edit : goal.invariant-loop-edit
invariant-loop-edit l = record {
  solved : IsSolvedAt l.fn.number l.fn.functions l.edit-index (arc_value l.last.source) l.last.table;
  tables : l.tables ≡ l.edit-index + 1;
  breaches : l.breaches ≡ 0;
}
