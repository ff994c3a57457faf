use Rattle.std.proofs.lemmas.Result.{IfOk-weaker, IfErr-weaker}
use Rattle.c_parse.proofs.UnitExits.{global_named_found, global_named_stop}
use Rattle.c_parse.proofs.unit.named.Goals as goal

pub returns-then-may : goal.returns-then-may
returns-then-may c = record {
  found = IfOk-weaker c.globals.result _ _ (λ read d. global_named_found c.if-may.true d) c.globals.ensures.found;
  stop = IfErr-weaker c.globals.result _ _ (λ s b. global_named_stop c.if-may.true c.in-Some.ensures.cases.0 c.in_default-kind.not-OpenParen b) c.globals.ensures.stop;
}
