use Rattle.std.proofs.Common.{◌≡◌, ◌<◌, ℕ, Some, length, slice_get, take}
use Rattle.constraint_sys.specs.Index.{has_end, numbers_where}
use Rattle.constraint_sys.proofs.system.rows.Given as goal

abbrev pub invariant-loop-i : goal.invariant-loop-i
invariant-loop-i l = record {
  room : length l.rows.items ≡ length l.function.nodes;
  rows : (node : ℕ) → node < length l.rows.items → slice_get l.rows.items node ≡ Some (numbers_where (has_end l.end node) 0 (take l.i l.function.edges));
}
