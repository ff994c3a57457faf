use Rattle.std.proofs.Common.{ℤ, List, subst}
use Rattle.std.specs.List.Sorted.{IsStrictlySortedBy}
use Rattle.std.specs.Ordering.{int_cmp}
use Rattle.state_dom.proofs.Thresholding.{IsSorted-once}
use Rattle.state_dom.proofs.thresholds.Thresholds.as_slice.Goals as goal

pub returns-clause-ascending : goal.returns-clause-ascending
returns-clause-ascending c = IsSorted-once c.args.self.now (subst (λ (xs : List ℤ). IsStrictlySortedBy int_cmp xs) c.self.view_is c.self.invariant)
