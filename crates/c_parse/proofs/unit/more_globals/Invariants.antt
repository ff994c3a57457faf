use Rattle.std.proofs.Common.{◌≡◌, List, length}
use Rattle.c_parse.specs.Machine as machine
use Rattle.c_parse.specs.Grammar.{within}
use Rattle.c_parse.specs.Unsigned.{AreUnsigned}
use Rattle.c_parse.proofs.Descent.{RunsOn}
use Rattle.c_parse.proofs.UnitExits.{GlobalsGoOn}
use Rattle.c_parse.proofs.unit.more_globals.Given as goal

abbrev pub invariant-loop-token : goal.invariant-loop-token
invariant-loop-token l = record {
  reads : GlobalsGoOn l.fn.width l.fn.front l.fn.tokens l.list l.rest;
  runs : RunsOn machine.Part.more_globals (within 0) l.fn.tokens (within 0) l.rest;
  unsigned : AreUnsigned l.rest;
}

abbrev pub decreases-loop-token : goal.decreases-loop-token
decreases-loop-token l = length l.rest
