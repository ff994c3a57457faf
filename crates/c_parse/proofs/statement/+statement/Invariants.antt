use Rattle.std.proofs.Common.{◌≤◌, ◌+◌, ◌*◌, length}
use Rattle.c_parse.specs.Machine as machine
use Rattle.c_parse.specs.Grammar.{within}
use Rattle.c_parse.proofs.Descent.{RunsOn}
use Rattle.c_parse.proofs.StatementExits.{ItemsGoOn}
use Rattle.c_parse.proofs.statement.+statement.Given as goal

abbrev pub decreases-if_else : goal.decreases-if_else
decreases-if_else l = 4 * length l.tokens.now

abbrev pub decreases-while_loop : goal.decreases-while_loop
decreases-while_loop l = 4 * length l.tokens.now

abbrev pub decreases-do_loop : goal.decreases-do_loop
decreases-do_loop l = 4 * length l.tokens.now + 2

abbrev pub decreases-for_loop : goal.decreases-for_loop
decreases-for_loop l = 4 * length l.tokens.now

abbrev pub decreases-bare : goal.decreases-bare
decreases-bare l = 4 * length l.tokens.now

abbrev pub decreases-stmt : goal.decreases-stmt
decreases-stmt l = 4 * length l.tokens.now + 1

abbrev pub decreases-otherwise : goal.decreases-otherwise
decreases-otherwise l = 4 * length l.tokens.now

abbrev pub decreases-items : goal.decreases-items
decreases-items l = 4 * length l.tokens.now + 2

abbrev pub invariant-items-loop-token : goal.invariant-items-loop-token
invariant-items-loop-token l = record {
  reads : ItemsGoOn l.depth l.fn.tokens l.list l.rest;
  runs : RunsOn (machine.Part.items l.depth) (within 0) l.fn.tokens (within 0) l.rest;
  short : length l.rest ≤ length l.fn.tokens;
}

abbrev pub decreases-items-loop-token : goal.decreases-items-loop-token
decreases-items-loop-token l = length l.rest
