use Rattle.std.proofs.Common.{◌≡◌, ◌<◌, ℕ, length}
use Rattle.constraint_sys.specs.Index.{has_end, numbers_where, row_at}
use Rattle.constraint_sys.specs.Table.{edges_at}
use Rattle.constraint_sys.proofs.system.index.Given as goal

abbrev pub invariant-loop-function : goal.invariant-loop-function
invariant-loop-function l = record {
  room : length l.index ≡ l.function-index;
  rows : (f node : ℕ) → f < l.function-index → row_at l.index f node ≡ numbers_where (has_end l.end node) 0 (edges_at l.program f);
}
