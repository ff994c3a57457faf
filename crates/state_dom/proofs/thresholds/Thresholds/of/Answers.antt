use Rattle.std.proofs.Common.{ℤ, List, subst}
use Rattle.state_dom.specs.ThresholdValues.{HasSameMembers, thresholds_of}
use Rattle.state_dom.proofs.Thresholding.{HasSameMembers-permutation, HasSameMembers-trans}
use Rattle.state_dom.proofs.thresholds.Thresholds.of.Goals as goal

pub returns : goal.returns
returns c =
    HasSameMembers-trans (thresholds_of c.args.program.now) c.sort.new.self.items c.keep_each_once.new.marks.items
    (subst (λ (xs : List ℤ). HasSameMembers xs c.sort.new.self.items) c.in_ok-marks.ensures (HasSameMembers-permutation c.in_ok-marks.marks.items c.sort.new.self.items c.sort.ensures.permutation))
    c.keep_each_once.ensures.same
