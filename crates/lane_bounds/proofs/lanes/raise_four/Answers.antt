use Rattle.std.proofs.Common.{ℤ, List, ap, ap₂, ◌∙◌}
use Rattle.std.specs.Int.{int_max}
use Rattle.std.specs.Simd.Lanes.{put_chunk, zip2}
use Rattle.lane_bounds.proofs.Four.{greater-four}
use Rattle.lane_bounds.proofs.lanes.raise_four.Goals as goal

pub returns : goal.returns
returns c =
    ap (λ (lanes : List ℤ). put_chunk c.args.at c.args.x.now lanes)
    (greater-four c.four_at.result c.four_at-2.result c.four_at.ensures.four c.four_at-2.ensures.four
    ∙ ap₂ (zip2 int_max) c.four_at.ensures.lanes c.four_at-2.ensures.lanes)
