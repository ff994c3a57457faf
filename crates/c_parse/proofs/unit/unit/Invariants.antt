use Rattle.std.proofs.Common.{◌≡◌, List, length}
use Rattle.c_parse.specs.Unsigned.{AreUnsigned}
use Rattle.c_parse.proofs.UnitExits.{UnitGoesOn, UnitRunsOn}
use Rattle.c_parse.proofs.unit.unit.Given as goal

abbrev pub invariant-loop-rest : goal.invariant-loop-rest
invariant-loop-rest l = record {
  reads : UnitGoesOn l.fn.tokens l.list l.rest;
  runs : UnitRunsOn l.fn.tokens l.rest;
  unsigned : AreUnsigned l.rest;
}

abbrev pub decreases-loop-rest : goal.decreases-loop-rest
decreases-loop-rest l = length l.rest
