use Rattle.std.proofs.Common.{◌∙◌}
use Rattle.lane_bounds.proofs.Marks.{get_or-four_marks, marks_of}
use Rattle.lane_bounds.proofs.marked.put_four.Goals as goal

pub returns-clause-here : goal.returns-clause-here
returns-clause-here c j within = get_or-four_marks c.args.out.now c.args.at j _ c.requires.room within ∙ marks_of c.args.marks j _ c.requires.small within
