use Rattle.c_parse.proofs.Descent.{runs_then}
use Rattle.c_parse.proofs.UnitExits.{globals_again, globals_closed, globals_run}
use Rattle.c_parse.proofs.unit.more_globals.Goals as goal

pub returns-in-Semicolon-clause-found : goal.returns-in-Semicolon-clause-found
returns-in-Semicolon-clause-found c = globals_closed c.args.front c.loop-token.invariant.reads c.in-Some.ensures.cases.0 c.in-Semicolon.is

pub loop-token-preserved : goal.loop-token-preserved
loop-token-preserved c =
    let first = c.in-Some.ensures.cases.0 in
    let name = c.in_ok-name-in-Comma.ensures.found in
    let one = c.in_ok-one-in-Comma.ensures.found in
    record {
      reads = globals_again c.args.front c.loop-token.list c.push.new.self c.loop-token.invariant.reads c.in_ok-push-in-Comma.ensures.ok first c.in-Comma.is name one;
      runs = runs_then c.loop-token.invariant.runs (globals_run first c.in-Comma.is name one);
      unsigned = c.in_ok-one-in-Comma.ensures.unsigned;
    }
