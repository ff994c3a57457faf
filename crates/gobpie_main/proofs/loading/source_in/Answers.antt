use Rattle.std.proofs.Common.{◌<◌, ℕ, Option, length, subst}
use Rattle.std.specs.Global.{Vec}
use Rattle.c_lex.specs.declared.TheConstants.{TEXT_LIMIT}
use Rattle.gobpie_main.specs.Loading.{IsLoadOf}
use Rattle.gobpie_main.proofs.Refusing.{too_long_is_refused}
use Rattle.gobpie_main.proofs.loading.source_in.Goals as goal

pub returns-in-None-clause-fault : goal.returns-in-None-clause-fault
returns-in-None-clause-fault c = λ text told.
    let long : TEXT_LIMIT < length text = subst (λ (o : Option (Vec ℕ)). IsLoadOf TEXT_LIMIT text o) c.in-None.is told in
    too_long_is_refused text c.too_long.result long c.too_long.ensures
