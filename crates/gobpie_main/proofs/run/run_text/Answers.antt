use Rattle.std.proofs.Common.{◌≡◌}
use Rattle.std.proofs.lemmas.Result.{err_from_is_err_and}
use Rattle.run_lines.specs.Lines.{run_lines}
use Rattle.gobpie_main.proofs.Refusing.{refused_run, refused_schedule}
use Rattle.gobpie_main.proofs.run.run_text.Goals as goal

pub returns-in_err-source : goal.returns-in_err-source
returns-in_err-source c = λ text schedule told told'.
    let p = err_from_is_err_and c.from_residual.result c.from_residual.ensures.1 in
    rw (p.1, p.2) (refused_run text schedule c.in_err-source.field-0.0 (c.in_err-source.ensures.fault text told))

pub returns-in_err-choices : goal.returns-in_err-choices
returns-in_err-choices c = λ text schedule told told'.
    let p = err_from_is_err_and c.from_residual-in_err-choices.result c.from_residual-in_err-choices.ensures.1 in
    rw (p.1, p.2)
    (refused_schedule text schedule c.in_ok-source.source c.in_err-choices.field-0.0 (c.in_ok-source.ensures.source text told) (c.in_err-choices.ensures.fault schedule told'))

pub returns : goal.returns
returns c = λ text schedule told told'.
    let lines : c.in_ok-lines.lines.items ≡ run_lines c.in_ok-source.source.unit c.in_ok-choices.choices = cc (c.in_ok-lines.ensures, c.unit.ensures, c.as_slice.ensures) in
    (c.in_ok-source.source, c.in_ok-source.ensures.source text told, (c.in_ok-choices.choices, c.in_ok-choices.ensures.choices schedule told', lines))
