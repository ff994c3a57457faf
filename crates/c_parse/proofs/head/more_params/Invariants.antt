use Rattle.std.proofs.Common.{◌≡◌, List, length}
use Rattle.c_parse.proofs.HeadExits.{ParamsGoOn, ParamsRunOn}
use Rattle.c_parse.proofs.head.more_params.Given as goal

abbrev pub invariant-loop-token : goal.invariant-loop-token
invariant-loop-token l = record {
  reads : ParamsGoOn l.fn.first l.fn.may_at_first l.fn.tokens l.head l.may l.rest;
  runs : ParamsRunOn l.fn.may_at_first l.fn.tokens l.may l.rest;
}

abbrev pub decreases-loop-token : goal.decreases-loop-token
decreases-loop-token l = length l.rest
