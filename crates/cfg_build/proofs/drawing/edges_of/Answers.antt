use Rattle.std.proofs.Common.{sym, ◌∙◌}
use Rattle.cfg_build.proofs.Marks.{edge_of_marked}
use Rattle.cfg_build.proofs.drawing.edges_of.Goals as goal

pub returns : goal.returns
returns c = c.in_ok-edges.ensures ∙ sym (edge_of_marked c.args.marked)
