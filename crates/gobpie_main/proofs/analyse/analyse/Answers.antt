use Rattle.std.proofs.Common.{inr}
use Rattle.gobpie_main.proofs.analyse.analyse.Goals as goal

pub returns-clause-answer : goal.returns-clause-answer
returns-clause-answer g c =
    let found = c.in_ok-found.ensures.loaded in
    inr (found.0, found.1, c.table_in.ensures found.0 found.2)
