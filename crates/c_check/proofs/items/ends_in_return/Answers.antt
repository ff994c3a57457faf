use Rattle.std.proofs.Common.{sym, ap, ◌∙◌}
use Rattle.std.specs.Option.{option_copied}
use Rattle.c_check.proofs.Among.{at_last, none_at_last}
use Rattle.c_check.proofs.items.ends_in_return.Goals as goal

pub returns-in-Some : goal.returns-in-Some
returns-in-Some c = c.is_return.ensures ∙ at_last c.args.body.now c.in-Some.last.now (sym c.last.ensures.value ∙ ap option_copied c.in-Some.is)

pub returns-in-None : goal.returns-in-None
returns-in-None c = none_at_last c.args.body.now (sym c.last.ensures.value ∙ ap option_copied c.in-None.is)
