use Rattle.std.proofs.Common.{◌≡◌, ◌<◌, ℕ, [], Some, length, slice_get}
use Rattle.constraint_sys.proofs.system.empty_rows.Given as goal

abbrev pub invariant-loop-i : goal.invariant-loop-i
invariant-loop-i l = record {
  counted : length l.rows.items ≡ l._i;
  empty : (node : ℕ) → node < l._i → slice_get l.rows.items node ≡ Some [];
}
