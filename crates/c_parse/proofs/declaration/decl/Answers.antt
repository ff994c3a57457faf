use Rattle.std.proofs.lemmas.Result.{IfOk-weaker, IfErr-weaker}
use Rattle.c_parse.proofs.DeclarationExits.{number_decl_found, number_decl_stop}
use Rattle.c_parse.proofs.declaration.decl.Goals as goal

pub returns-in_default-kind : goal.returns-in_default-kind
returns-in_default-kind c = record {
  found = IfOk-weaker c.numbers.result _ _ (λ read o. number_decl_found o) c.numbers.ensures.found;
  stop = IfErr-weaker c.numbers.result _ _ (λ s b. number_decl_stop c.in-Some.ensures.cases.0 c.in_default-kind.not-Thread b) c.numbers.ensures.stop;
}
