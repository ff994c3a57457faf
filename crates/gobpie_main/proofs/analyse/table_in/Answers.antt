use Rattle.std.proofs.lemmas.Result.{err_from_is_err_and}
use Rattle.gobpie_main.proofs.Refusing.{refused_analysis}
use Rattle.gobpie_main.proofs.analyse.table_in.Goals as goal

pub returns-in_err-source : goal.returns-in_err-source
returns-in_err-source c = λ text told.
    let p = err_from_is_err_and c.from_residual.result c.from_residual.ensures.1 in
    rw (p.1, p.2) (refused_analysis text c.args.budget c.in_err-source.field-0.0 (c.in_err-source.ensures.fault text told))

pub returns : goal.returns
returns c = λ text told. c.table_of.ensures text (c.in_ok-source.ensures.source text told)
