use Rattle.std.proofs.Common.{◌≡◌, sym, ◌∙◌}
use Rattle.cfg_build.proofs.Starts.{start-block, start-for}
use Rattle.cfg_build.proofs.lower.+start.Goals as goal

pub start_of-returns-in-Block : goal.start_of-returns-in-Block
start_of-returns-in-Block t c = c.first_start.ensures ∙ start-block c.args.placed.now c.in-Block.all c.as_slice.result.now c.in-Block.is c.as_slice.ensures

pub start_of-returns-in-For : goal.start_of-returns-in-For
start_of-returns-in-For t c = c.first_start-in-For.ensures ∙ start-for c.args.placed.now c.in-For.first c.as_slice-in-For.result.now _ _ _ c.in-For.is c.as_slice-in-For.ensures
