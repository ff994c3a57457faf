use Rattle.std.proofs.Common.{◌≡◌, ◌++◌, take}
use Rattle.constraint_sys.proofs.edges.add.Given as goal

abbrev pub invariant-loop-u : goal.invariant-loop-u
invariant-loop-u l = record {
  value : l.given.value ≡ l.initial.given.value;
  effects : l.given.effects ≡ l.initial.given.effects;
  reads : l.given.reads ≡ l.initial.given.reads ++ take l.u-index l.u-items;
}

abbrev pub invariant-loop-e : goal.invariant-loop-e
invariant-loop-e l = record {
  value : l.given.value ≡ l.initial.given.value;
  effects : l.given.effects ≡ l.initial.given.effects ++ l.yielded;
  reads : l.given.reads ≡ l.initial.given.reads;
}
