use Rattle.std.proofs.Common.{◌≡◌, ◌≤◌}
use Rattle.gen_load.specs.Drawing.{state_after, choices}
use Rattle.gen_load.proofs.choice.choices_of.Given as goal

abbrev pub invariant-loop-count : goal.invariant-loop-count
invariant-loop-count l = record {
  state : l.state ≡ state_after l.fn.number l.count;
  within : l.count ≤ l.fn.functions;
  made : l.made.items ≡ choices l.fn.number l.count;
}
