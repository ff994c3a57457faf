use Rattle.std.proofs.Common.{◌≡◌, ℤ, pos, List, get_or, set, arith, ap, ◌∙◌, FitsSigned, w64, rules, length-set}
use Rattle.std.specs.Int.{int_min}
use Rattle.std.specs.Simd.Lanes.{put_chunk, zip2, chunk}
use Rattle.std.proofs.lemmas.Int.{to_z-of_z}
use Rattle.lane_bounds.proofs.Places.{partly-all, partly-next, partly-four}
use Rattle.lane_bounds.proofs.joined.lower_to.Goals as goal

pub loop-x-preserved : goal.loop-x-preserved
loop-x-preserved c = (
  omega arith,
  c.lower_four.ensures
      ∙ ap (λ (xs : List ℤ). put_chunk c.loop-x.at xs (zip2 int_min (chunk c.loop-x.at 4 xs) (chunk c.loop-x.at 4 c.args.y.now))) c.loop-x.invariant.1
      ∙ partly-four int_min c.loop-x.at c.args.x.now c.args.y.now (omega arith) (omega arith),
)

pub loop-at-preserved : goal.loop-at-preserved
loop-at-preserved c =
    let left : FitsSigned w64 (get_or c.loop-at.x c.loop-at.at (pos 0)) = search rules in
    let right : FitsSigned w64 (get_or c.args.y.now c.loop-at.at (pos 0)) = search rules in
    let fits : FitsSigned w64 c.min.result = search rules in
    let value : c.min.result ≡ int_min (get_or c.loop-at.x c.loop-at.at (pos 0)) (get_or c.args.y.now c.loop-at.at (pos 0)) = simp to_z-of_z at c.min.ensures.value in (
      simp length-set (omega arith),
      ap (λ (n : ℤ). set c.loop-at.x c.loop-at.at n) (to_z-of_z w64 c.min.result fits ∙ value)
          ∙ ap (λ (xs : List ℤ). set xs c.loop-at.at (int_min (get_or xs c.loop-at.at (pos 0)) (get_or c.args.y.now c.loop-at.at (pos 0)))) c.loop-at.invariant.1
          ∙ partly-next int_min c.loop-at.at c.args.x.now c.args.y.now (pos 0) (pos 0) (omega arith) (omega arith),
    )

pub returns : goal.returns
returns c = c.loop-at.invariant.1 ∙ partly-all int_min c.loop-at.at c.args.x.now c.args.y.now c.requires (omega arith)
