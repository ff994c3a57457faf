use Rattle.std.proofs.lemmas.Result.{IfOk-weaker, IfErr-weaker}
use Rattle.c_parse.proofs.UnitExits.{plain_found, plain_stop}
use Rattle.c_parse.proofs.unit.item.Goals as goal

pub returns-in_default-kind : goal.returns-in_default-kind
returns-in_default-kind c = record {
  found = IfOk-weaker c.outer-in_default-kind.result _ _ (λ read d. plain_found d) c.outer-in_default-kind.ensures.found;
  stop = IfErr-weaker c.outer-in_default-kind.result _ _ (λ s b. plain_stop c.in-Some.ensures.cases.0 c.in_default-kind.not-Static c.in_default-kind.not-Extern b) c.outer-in_default-kind.ensures.stop;
}
