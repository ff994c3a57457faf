use Rattle.std.proofs.Common.{◌∙◌, sym}
use Rattle.std.proofs.lemmas.Option.{none-some}
use Rattle.global_restart.proofs.renaming.match_at.Goals as goal

pub unreachable-requires : goal.unreachable-requires
unreachable-requires c = none-some c.requires.0 (sym c.in-None.is ∙ (c.match_of.ensures c.requires.0).1 c.requires.1)

pub returns : goal.returns
returns c = (c.match_of.ensures c.in-Some.j).0 c.in-Some.is
