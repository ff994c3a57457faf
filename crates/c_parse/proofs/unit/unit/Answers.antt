use Rattle.std.proofs.Common.{◌∙◌, arith}
use Rattle.std.proofs.lemmas.Result.{err_from_is_err_and}
use Rattle.c_parse.proofs.Kept.{kept_item}
use Rattle.c_parse.proofs.Shorter.{shorter_item}
use Rattle.c_parse.proofs.UnitExits.{unit_again, unit_run, unit_stop, unit_found}
use Rattle.c_parse.proofs.unit.unit.Goals as goal

pub returns-in_err-now-clause-stop : goal.returns-in_err-now-clause-stop
returns-in_err-now-clause-stop c =
    let p = err_from_is_err_and c.from_residual.result c.from_residual.ensures.1 in
    rw (p.1, p.2) (unit_stop c.loop-rest.invariant.runs (grind (arith, c.loop-rest-test.true, c.is_empty.ensures)) c.in_err-now.ensures.stop)

pub loop-rest-smaller : goal.loop-rest-smaller
loop-rest-smaller c = shorter_item c.in_ok-now.ensures.found.reads

pub loop-rest-preserved : goal.loop-rest-preserved
loop-rest-preserved c = record {
  reads = unit_again c.loop-rest.invariant.reads c.in_ok-now.ensures.found;
  runs = unit_run c.loop-rest.invariant.runs (grind (arith, c.loop-rest-test.true, c.is_empty.ensures)) c.in_ok-now.ensures.found;
  unsigned = kept_item c.in_ok-now.ensures.found.reads c.loop-rest.invariant.unsigned;
}

pub returns-clause-found : goal.returns-clause-found
returns-clause-found c = unit_found c.loop-rest.rest.now c.loop-rest.invariant.reads (grind (arith, c.loop-rest-test.false, c.is_empty.ensures))
