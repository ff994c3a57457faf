use Rattle.std.proofs.Common.{◌≡◌, ℕ, ◌+◌, ◌-◌, ◌<◌, pos, false, length, get_or, set, arith, sym, subst, ◌∙◌, inl, inr, FitsSigned, w64, to_z, of_z, rules}
use Rattle.std.specs.Simd.Lanes.{zip2}
use Rattle.std.proofs.lemmas.Bool.{cases_eq, cases_lt}
use Rattle.std.proofs.lemmas.Int.{to_z-of_z}
use Rattle.std.proofs.lemmas.List.{ext_get_or, get_or-set_same, get_or-set_other}
use Rattle.std.proofs.lemmas.Simd.{get_or-zip2, length-zip2}
use Rattle.lane_bounds.specs.Columns.{at_place}
use Rattle.lane_bounds.specs.Comparisons.{holds_for_some}
use Rattle.lane_bounds.proofs.Places.{bit_of-test}
use Rattle.lane_bounds.proofs.marked.mark_places.Goals as goal

pub loop-at-preserved : goal.loop-at-preserved
loop-at-preserved c =
    let fits : FitsSigned w64 c.args.c = c.ranges.c in (
      omega arith,
      λ k within. elim (cases_lt k c.loop-at.at) [
        | inl before ↦ c.put_four.ensures.before k before ∙ c.loop-at.invariant.1 k before
        | inr after ↦
            (let back : c.loop-at.at + (k - c.loop-at.at) ≡ k = omega arith in
            let inside : k - c.loop-at.at < 4 = omega arith in
            let mark = c.put_four.ensures.here (k - c.loop-at.at) inside ∙ bit_of-test _ _ (c.four_marks.ensures.places (k - c.loop-at.at) inside) in
            rw back at mark)
      ],
    )

pub loop-at-2-preserved : goal.loop-at-2-preserved
loop-at-2-preserved c =
    let fits : FitsSigned w64 c.args.c = c.ranges.c in
    let low : FitsSigned w64 (get_or c.args.lo.now c.loop-at-2.at (pos 0)) = search rules in
    let high : FitsSigned w64 (get_or c.args.hi.now c.loop-at-2.at (pos 0)) = search rules in
    let long : c.loop-at-2.at < length c.loop-at-2.out = omega arith in (
      omega arith,
      λ k within. elim (cases_eq k c.loop-at-2.at) [
        | inl same ↦
            subst (λ (j : ℕ). get_or (set c.loop-at-2.out c.loop-at-2.at c.one_mark.result) j false ≡ holds_for_some c.args.op (to_z w64 (of_z w64 c.args.c)) (at_place c.args.lo.now j) (at_place c.args.hi.now j)) (sym same)
            (get_or-set_same c.loop-at-2.out c.loop-at-2.at c.one_mark.result false long
            ∙ rw (to_z-of_z w64 c.args.c fits) (simp to_z-of_z at c.one_mark.ensures))
        | inr other ↦ get_or-set_other c.loop-at-2.out _ _ _ _ other ∙ c.loop-at-2.invariant.1 k (omega arith)
      ],
    )

pub returns : goal.returns
returns c =
    let fits : FitsSigned w64 c.args.c = c.ranges.c in
    ext_get_or false c.loop-at-2.out (zip2 (holds_for_some c.args.op c.args.c) c.args.lo.now c.args.hi.now)
    (omega (arith, length-zip2 (holds_for_some c.args.op c.args.c) c.args.lo.now c.args.hi.now (sym c.requires.hi)))
    (λ k within. (simp to_z-of_z at (c.loop-at-2.invariant.1 k (omega arith))) ∙ sym (get_or-zip2 (holds_for_some c.args.op c.args.c) c.args.lo.now c.args.hi.now k (pos 0) (pos 0) false (omega arith) (omega arith)))
