use Rattle.std.proofs.Common.{◌≡◌, length}
use Rattle.arg_chain.specs.Calls.{HasMore, IsHopToMember}
use Rattle.arg_chain.proofs.hops.add_members.Given as goal

abbrev pub invariant-loop-i : goal.invariant-loop-i
invariant-loop-i l = record {
  len : length l.rows.items ≡ length l.fn.rows.items;
  more : HasMore l.fn.rows.items l.rows.items (IsHopToMember l.vertices l.i l.numbers.entries (length l.vertices));
}
