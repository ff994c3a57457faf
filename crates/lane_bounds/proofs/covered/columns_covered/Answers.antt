use Rattle.std.proofs.Common.{◌+◌, ◌&&◌, Bool, pos, get_or, drop, arith, ap, sym, ◌∙◌, FitsSigned, w64, rules}
use Rattle.std.proofs.lemmas.Int.{to_z-of_z}
use Rattle.lane_bounds.specs.Columns.{all_covered}
use Rattle.lane_bounds.proofs.Places.{all_covered-passed, all_covered-failed, all_covered-next}
use Rattle.lane_bounds.proofs.covered.columns_covered.Goals as goal

pub loop-at-preserved : goal.loop-at-preserved
loop-at-preserved c = (
  omega arith,
  c.loop-at.invariant.1
      ∙ all_covered-passed c.loop-at.at c.args.a_lo.now c.args.a_hi.now c.args.b_lo.now c.args.b_hi.now (omega arith) (omega arith) (omega arith) (omega arith) (sym c.if-not-four_covered.ensures),
)

pub returns-then-not-four_covered : goal.returns-then-not-four_covered
returns-then-not-four_covered c =
    sym (c.loop-at.invariant.1
    ∙ all_covered-failed c.loop-at.at c.args.a_lo.now c.args.a_hi.now c.args.b_lo.now c.args.b_hi.now (omega arith) (omega arith) (omega arith) (omega arith) (sym c.if-not-four_covered.ensures))

pub loop-at-2-preserved : goal.loop-at-2-preserved
loop-at-2-preserved c =
    let a_low : FitsSigned w64 (get_or c.args.a_lo.now c.loop-at-2.at (pos 0)) = search rules in
    let a_high : FitsSigned w64 (get_or c.args.a_hi.now c.loop-at-2.at (pos 0)) = search rules in
    let b_low : FitsSigned w64 (get_or c.args.b_lo.now c.loop-at-2.at (pos 0)) = search rules in
    let b_high : FitsSigned w64 (get_or c.args.b_hi.now c.loop-at-2.at (pos 0)) = search rules in
    let next = all_covered-next c.loop-at-2.at c.args.a_lo.now c.args.a_hi.now c.args.b_lo.now c.args.b_hi.now (omega arith) (omega arith) (omega arith) (omega arith) in (
      omega arith,
      c.loop-at-2.invariant.1 ∙ next
          ∙ ap (λ (b : Bool). b && all_covered (drop (c.loop-at-2.at + 1) c.args.a_lo.now) (drop (c.loop-at-2.at + 1) c.args.a_hi.now) (drop (c.loop-at-2.at + 1) c.args.b_lo.now) (drop (c.loop-at-2.at + 1) c.args.b_hi.now)) (sym (simp to_z-of_z at c.if-not-one_covered.ensures)),
    )

pub returns-then-not-one_covered : goal.returns-then-not-one_covered
returns-then-not-one_covered c =
    let a_low : FitsSigned w64 (get_or c.args.a_lo.now c.loop-at-2.at (pos 0)) = search rules in
    let a_high : FitsSigned w64 (get_or c.args.a_hi.now c.loop-at-2.at (pos 0)) = search rules in
    let b_low : FitsSigned w64 (get_or c.args.b_lo.now c.loop-at-2.at (pos 0)) = search rules in
    let b_high : FitsSigned w64 (get_or c.args.b_hi.now c.loop-at-2.at (pos 0)) = search rules in
    let next = all_covered-next c.loop-at-2.at c.args.a_lo.now c.args.a_hi.now c.args.b_lo.now c.args.b_hi.now (omega arith) (omega arith) (omega arith) (omega arith) in
    sym (c.loop-at-2.invariant.1 ∙ next
    ∙ ap (λ (b : Bool). b && all_covered (drop (c.loop-at-2.at + 1) c.args.a_lo.now) (drop (c.loop-at-2.at + 1) c.args.a_hi.now) (drop (c.loop-at-2.at + 1) c.args.b_lo.now) (drop (c.loop-at-2.at + 1) c.args.b_hi.now)) (sym (simp to_z-of_z at c.if-not-one_covered.ensures)))
