use Rattle.std.proofs.Common.{◌≡◌, ◌+◌, pos, get_or, int_le, int_lt, replicate, ap, ap₂, ◌∙◌}
use Rattle.std.proofs.lemmas.Simd.{get_or-replicate}
use Rattle.lane_bounds.specs.Columns.{at_place, bit_of}
use Rattle.lane_bounds.proofs.Four.{IsMask-le, IsMask-lt, IsMask-and, IsMask-or, IsFour-replicate, bit_at-mask, mask-small, at_place-lane, both, either, both_at, one_and_either_at}
use Rattle.lane_bounds.proofs.lanes.four_marks.Goals as goal

pub returns-in-Lt-clause-small : goal.returns-in-Lt-clause-small
returns-in-Lt-clause-small c = mask-small _ _ (IsMask-and _ _ _ _ (IsMask-le c.four_at-low.result c.four_at-high.result c.four_at-low.ensures.four c.four_at-high.ensures.four) (IsMask-lt c.four_at-low.result (replicate 4 c.args.c) c.four_at-low.ensures.four (IsFour-replicate c.args.c c.ranges.c)))

pub returns-in-Lt-clause-places : goal.returns-in-Lt-clause-places
returns-in-Lt-clause-places c j within =
    let low : get_or c.four_at-low.result j (pos 0) ≡ at_place c.args.lo.now (c.args.at + j) = at_place-lane c.args.lo.now c.four_at-low.result c.args.at j c.four_at-low.ensures.lanes within in
    let high : get_or c.four_at-high.result j (pos 0) ≡ at_place c.args.hi.now (c.args.at + j) = at_place-lane c.args.hi.now c.four_at-high.result c.args.at j c.four_at-high.ensures.lanes within in
    let number : get_or (replicate 4 c.args.c) j (pos 0) ≡ c.args.c = get_or-replicate 4 j c.args.c (pos 0) within in
    rw c.in-Lt.is
    (bit_at-mask _ _ (IsMask-and _ _ _ _ (IsMask-le c.four_at-low.result c.four_at-high.result c.four_at-low.ensures.four c.four_at-high.ensures.four) (IsMask-lt c.four_at-low.result (replicate 4 c.args.c) c.four_at-low.ensures.four (IsFour-replicate c.args.c c.ranges.c))) j
    ∙ ap bit_of (both_at int_le int_lt c.four_at-low.result c.four_at-high.result c.four_at-low.result (replicate 4 c.args.c) j c.four_at-low.ensures.four c.four_at-high.ensures.four c.four_at-low.ensures.four (IsFour-replicate c.args.c c.ranges.c) within
    ∙ ap₂ both (ap₂ int_le low high) (ap₂ int_lt low number)))

pub returns-in-Le-clause-small : goal.returns-in-Le-clause-small
returns-in-Le-clause-small c = mask-small _ _ (IsMask-and _ _ _ _ (IsMask-le c.four_at-low.result c.four_at-high.result c.four_at-low.ensures.four c.four_at-high.ensures.four) (IsMask-le c.four_at-low.result (replicate 4 c.args.c) c.four_at-low.ensures.four (IsFour-replicate c.args.c c.ranges.c)))

pub returns-in-Le-clause-places : goal.returns-in-Le-clause-places
returns-in-Le-clause-places c j within =
    let low : get_or c.four_at-low.result j (pos 0) ≡ at_place c.args.lo.now (c.args.at + j) = at_place-lane c.args.lo.now c.four_at-low.result c.args.at j c.four_at-low.ensures.lanes within in
    let high : get_or c.four_at-high.result j (pos 0) ≡ at_place c.args.hi.now (c.args.at + j) = at_place-lane c.args.hi.now c.four_at-high.result c.args.at j c.four_at-high.ensures.lanes within in
    let number : get_or (replicate 4 c.args.c) j (pos 0) ≡ c.args.c = get_or-replicate 4 j c.args.c (pos 0) within in
    rw c.in-Le.is
    (bit_at-mask _ _ (IsMask-and _ _ _ _ (IsMask-le c.four_at-low.result c.four_at-high.result c.four_at-low.ensures.four c.four_at-high.ensures.four) (IsMask-le c.four_at-low.result (replicate 4 c.args.c) c.four_at-low.ensures.four (IsFour-replicate c.args.c c.ranges.c))) j
    ∙ ap bit_of (both_at int_le int_le c.four_at-low.result c.four_at-high.result c.four_at-low.result (replicate 4 c.args.c) j c.four_at-low.ensures.four c.four_at-high.ensures.four c.four_at-low.ensures.four (IsFour-replicate c.args.c c.ranges.c) within
    ∙ ap₂ both (ap₂ int_le low high) (ap₂ int_le low number)))

pub returns-in-Gt-clause-small : goal.returns-in-Gt-clause-small
returns-in-Gt-clause-small c = mask-small _ _ (IsMask-and _ _ _ _ (IsMask-le c.four_at-low.result c.four_at-high.result c.four_at-low.ensures.four c.four_at-high.ensures.four) (IsMask-lt (replicate 4 c.args.c) c.four_at-high.result (IsFour-replicate c.args.c c.ranges.c) c.four_at-high.ensures.four))

pub returns-in-Gt-clause-places : goal.returns-in-Gt-clause-places
returns-in-Gt-clause-places c j within =
    let low : get_or c.four_at-low.result j (pos 0) ≡ at_place c.args.lo.now (c.args.at + j) = at_place-lane c.args.lo.now c.four_at-low.result c.args.at j c.four_at-low.ensures.lanes within in
    let high : get_or c.four_at-high.result j (pos 0) ≡ at_place c.args.hi.now (c.args.at + j) = at_place-lane c.args.hi.now c.four_at-high.result c.args.at j c.four_at-high.ensures.lanes within in
    let number : get_or (replicate 4 c.args.c) j (pos 0) ≡ c.args.c = get_or-replicate 4 j c.args.c (pos 0) within in
    rw c.in-Gt.is
    (bit_at-mask _ _ (IsMask-and _ _ _ _ (IsMask-le c.four_at-low.result c.four_at-high.result c.four_at-low.ensures.four c.four_at-high.ensures.four) (IsMask-lt (replicate 4 c.args.c) c.four_at-high.result (IsFour-replicate c.args.c c.ranges.c) c.four_at-high.ensures.four)) j
    ∙ ap bit_of (both_at int_le int_lt c.four_at-low.result c.four_at-high.result (replicate 4 c.args.c) c.four_at-high.result j c.four_at-low.ensures.four c.four_at-high.ensures.four (IsFour-replicate c.args.c c.ranges.c) c.four_at-high.ensures.four within
    ∙ ap₂ both (ap₂ int_le low high) (ap₂ int_lt number high)))

pub returns-in-Ge-clause-small : goal.returns-in-Ge-clause-small
returns-in-Ge-clause-small c = mask-small _ _ (IsMask-and _ _ _ _ (IsMask-le c.four_at-low.result c.four_at-high.result c.four_at-low.ensures.four c.four_at-high.ensures.four) (IsMask-le (replicate 4 c.args.c) c.four_at-high.result (IsFour-replicate c.args.c c.ranges.c) c.four_at-high.ensures.four))

pub returns-in-Ge-clause-places : goal.returns-in-Ge-clause-places
returns-in-Ge-clause-places c j within =
    let low : get_or c.four_at-low.result j (pos 0) ≡ at_place c.args.lo.now (c.args.at + j) = at_place-lane c.args.lo.now c.four_at-low.result c.args.at j c.four_at-low.ensures.lanes within in
    let high : get_or c.four_at-high.result j (pos 0) ≡ at_place c.args.hi.now (c.args.at + j) = at_place-lane c.args.hi.now c.four_at-high.result c.args.at j c.four_at-high.ensures.lanes within in
    let number : get_or (replicate 4 c.args.c) j (pos 0) ≡ c.args.c = get_or-replicate 4 j c.args.c (pos 0) within in
    rw c.in-Ge.is
    (bit_at-mask _ _ (IsMask-and _ _ _ _ (IsMask-le c.four_at-low.result c.four_at-high.result c.four_at-low.ensures.four c.four_at-high.ensures.four) (IsMask-le (replicate 4 c.args.c) c.four_at-high.result (IsFour-replicate c.args.c c.ranges.c) c.four_at-high.ensures.four)) j
    ∙ ap bit_of (both_at int_le int_le c.four_at-low.result c.four_at-high.result (replicate 4 c.args.c) c.four_at-high.result j c.four_at-low.ensures.four c.four_at-high.ensures.four (IsFour-replicate c.args.c c.ranges.c) c.four_at-high.ensures.four within
    ∙ ap₂ both (ap₂ int_le low high) (ap₂ int_le number high)))

pub returns-in-Eq-clause-small : goal.returns-in-Eq-clause-small
returns-in-Eq-clause-small c = mask-small _ _ (IsMask-and _ _ _ _ (IsMask-le c.four_at-low.result (replicate 4 c.args.c) c.four_at-low.ensures.four (IsFour-replicate c.args.c c.ranges.c)) (IsMask-le (replicate 4 c.args.c) c.four_at-high.result (IsFour-replicate c.args.c c.ranges.c) c.four_at-high.ensures.four))

pub returns-in-Eq-clause-places : goal.returns-in-Eq-clause-places
returns-in-Eq-clause-places c j within =
    let low : get_or c.four_at-low.result j (pos 0) ≡ at_place c.args.lo.now (c.args.at + j) = at_place-lane c.args.lo.now c.four_at-low.result c.args.at j c.four_at-low.ensures.lanes within in
    let high : get_or c.four_at-high.result j (pos 0) ≡ at_place c.args.hi.now (c.args.at + j) = at_place-lane c.args.hi.now c.four_at-high.result c.args.at j c.four_at-high.ensures.lanes within in
    let number : get_or (replicate 4 c.args.c) j (pos 0) ≡ c.args.c = get_or-replicate 4 j c.args.c (pos 0) within in
    rw c.in-Eq.is
    (bit_at-mask _ _ (IsMask-and _ _ _ _ (IsMask-le c.four_at-low.result (replicate 4 c.args.c) c.four_at-low.ensures.four (IsFour-replicate c.args.c c.ranges.c)) (IsMask-le (replicate 4 c.args.c) c.four_at-high.result (IsFour-replicate c.args.c c.ranges.c) c.four_at-high.ensures.four)) j
    ∙ ap bit_of (both_at int_le int_le c.four_at-low.result (replicate 4 c.args.c) (replicate 4 c.args.c) c.four_at-high.result j c.four_at-low.ensures.four (IsFour-replicate c.args.c c.ranges.c) (IsFour-replicate c.args.c c.ranges.c) c.four_at-high.ensures.four within
    ∙ ap₂ both (ap₂ int_le low number) (ap₂ int_le number high)))

pub returns-in-Ne-clause-small : goal.returns-in-Ne-clause-small
returns-in-Ne-clause-small c = mask-small _ _ (IsMask-and _ _ _ _ (IsMask-le c.four_at-low.result c.four_at-high.result c.four_at-low.ensures.four c.four_at-high.ensures.four) (IsMask-or _ _ _ _ (IsMask-lt c.four_at-low.result (replicate 4 c.args.c) c.four_at-low.ensures.four (IsFour-replicate c.args.c c.ranges.c)) (IsMask-lt (replicate 4 c.args.c) c.four_at-high.result (IsFour-replicate c.args.c c.ranges.c) c.four_at-high.ensures.four)))

pub returns-in-Ne-clause-places : goal.returns-in-Ne-clause-places
returns-in-Ne-clause-places c j within =
    let low : get_or c.four_at-low.result j (pos 0) ≡ at_place c.args.lo.now (c.args.at + j) = at_place-lane c.args.lo.now c.four_at-low.result c.args.at j c.four_at-low.ensures.lanes within in
    let high : get_or c.four_at-high.result j (pos 0) ≡ at_place c.args.hi.now (c.args.at + j) = at_place-lane c.args.hi.now c.four_at-high.result c.args.at j c.four_at-high.ensures.lanes within in
    let number : get_or (replicate 4 c.args.c) j (pos 0) ≡ c.args.c = get_or-replicate 4 j c.args.c (pos 0) within in
    rw c.in-Ne.is
    (bit_at-mask _ _ (IsMask-and _ _ _ _ (IsMask-le c.four_at-low.result c.four_at-high.result c.four_at-low.ensures.four c.four_at-high.ensures.four) (IsMask-or _ _ _ _ (IsMask-lt c.four_at-low.result (replicate 4 c.args.c) c.four_at-low.ensures.four (IsFour-replicate c.args.c c.ranges.c)) (IsMask-lt (replicate 4 c.args.c) c.four_at-high.result (IsFour-replicate c.args.c c.ranges.c) c.four_at-high.ensures.four))) j
    ∙ ap bit_of (one_and_either_at int_le int_lt int_lt c.four_at-low.result c.four_at-high.result c.four_at-low.result (replicate 4 c.args.c) (replicate 4 c.args.c) c.four_at-high.result j c.four_at-low.ensures.four c.four_at-high.ensures.four c.four_at-low.ensures.four (IsFour-replicate c.args.c c.ranges.c) (IsFour-replicate c.args.c c.ranges.c) c.four_at-high.ensures.four within
    ∙ ap₂ both (ap₂ int_le low high) (ap₂ either (ap₂ int_lt low number) (ap₂ int_lt number high))))
