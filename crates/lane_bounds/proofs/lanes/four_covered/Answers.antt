use Rattle.std.proofs.Common.{ap₂, ◌∙◌}
use Rattle.lane_bounds.specs.Columns.{all_at_most}
use Rattle.lane_bounds.proofs.Four.{all_set, both}
use Rattle.lane_bounds.proofs.lanes.four_covered.Goals as goal

pub returns : goal.returns
returns c = let h = c.four_at.ensures in let h2 = c.four_at-2.ensures in let h3 = c.four_at-3.ensures in let h4 = c.four_at-4.ensures in
    all_set c.four_at.result c.four_at-2.result c.four_at-3.result c.four_at-4.result c.four_at.ensures.four c.four_at-2.ensures.four c.four_at-3.ensures.four c.four_at-4.ensures.four
    ∙ ap₂ both (ap₂ all_at_most c.four_at.ensures.lanes c.four_at-2.ensures.lanes) (ap₂ all_at_most c.four_at-3.ensures.lanes c.four_at-4.ensures.lanes)
