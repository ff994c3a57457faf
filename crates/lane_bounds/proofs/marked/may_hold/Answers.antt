use Rattle.std.proofs.Common.{◌≡◌, pos, Bool, false, List, get_or, arith, ap, ◌∙◌, FitsSigned, w64}
use Rattle.std.proofs.lemmas.Int.{to_z-of_z}
use Rattle.std.proofs.lemmas.Simd.{get_or-zip2}
use Rattle.lane_bounds.specs.Columns.{at_place}
use Rattle.lane_bounds.specs.Comparisons.{holds_for_some}
use Rattle.lane_bounds.proofs.Places.{holds_for_some-meaning}
use Rattle.lane_bounds.proofs.marked.may_hold.Goals as goal

pub returns-clause-places : goal.returns-clause-places
returns-clause-places c k within =
    let fits : FitsSigned w64 c.args.c = c.ranges.c in
    let mark : get_or c.mark_places.new.out k false ≡ holds_for_some c.args.op c.args.c (at_place c.args.lo.now k) (at_place c.args.hi.now k) =
    ap (λ (marks : List Bool). get_or marks k false) (simp to_z-of_z at c.mark_places.ensures)
    ∙ get_or-zip2 (holds_for_some c.args.op c.args.c) c.args.lo.now c.args.hi.now k (pos 0) (pos 0) false (omega arith) (omega arith) in
    rw mark (holds_for_some-meaning c.args.op c.args.c (at_place c.args.lo.now k) (at_place c.args.hi.now k))
