use Rattle.std.proofs.Common.{◌≡◌, ◌++◌, ◌≤◌, ℕ, None, drop}
use Rattle.constraint_sys.specs.declared.unknown.Unknown.TheVariants.{Global}
use Rattle.constraint_sys.specs.Table.{value_at}
use Rattle.constraint_sys.specs.Turn.{initial_globals}
use Rattle.constraint_sys.proofs.start.add_globals.Given as goal

abbrev pub invariant-loop-g : goal.invariant-loop-g
invariant-loop-g l = record {
  globals : l.table ++ initial_globals l.g (drop l.g l.globals) ≡ l.fn.table ++ initial_globals 0 l.globals;
  absent : (n : ℕ) → l.g ≤ n → value_at l.table (Global n) ≡ None;
}
