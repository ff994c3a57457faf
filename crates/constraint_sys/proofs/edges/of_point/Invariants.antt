use Rattle.std.proofs.Common.{◌≡◌, ◌++◌, drop, length}
use Rattle.state_dom.specs.StateValue.{room_of}
use Rattle.constraint_sys.specs.Contribution.{effects_of, edges_into, joined, joined_from, reads_of}
use Rattle.constraint_sys.specs.Index.{picked}
use Rattle.constraint_sys.specs.Table.{slots_at}
use Rattle.constraint_sys.proofs.edges.of_point.Given as goal

abbrev pub invariant-loop-i : goal.invariant-loop-i
invariant-loop-i l = record {
  value : joined_from l.program l.table l.func l.key l.given.value (picked l.edges (drop l.i-index l.i-items)) ≡ joined l.program l.table l.func l.key (edges_into l.program l.func l.node);
  effects : l.given.effects ++ effects_of l.program l.table l.func l.key (picked l.edges (drop l.i-index l.i-items)) ≡ effects_of l.program l.table l.func l.key (edges_into l.program l.func l.node);
  reads : l.given.reads ++ reads_of l.program l.table l.func l.key (picked l.edges (drop l.i-index l.i-items)) ≡ reads_of l.program l.table l.func l.key (edges_into l.program l.func l.node);
  room : room_of l.given.value ≡ length (slots_at l.program l.func);
}
