use Rattle.std.proofs.Common.{◌≡◌, ◌++◌, ◌≤◌, ℕ, None, length}
use Rattle.constraint_sys.specs.declared.unknown.Unknown.TheVariants.{Point, Global}
use Rattle.constraint_sys.specs.Table.{value_at, empty_key}
use Rattle.constraint_sys.specs.Turn.{bottoms}
use Rattle.constraint_sys.proofs.start.add_nodes.Given as goal

abbrev pub invariant-loop-node : goal.invariant-loop-node
invariant-loop-node l = record {
  nodes : l.table ≡ l.fn.table ++ bottoms (length l.function.slots) l.func empty_key l.node;
  absent : (n : ℕ) → l.node ≤ n → value_at l.table (Point l.func empty_key n) ≡ None;
  globals : (g : ℕ) → value_at l.table (Global g) ≡ value_at l.fn.table (Global g);
}
