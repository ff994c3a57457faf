use Rattle.std.proofs.Common.{◌≤ℤ◌, arith, subst}
use Rattle.std.proofs.lemmas.Int.{ints}
use Rattle.interval_dom.specs.Bounds.{Bounds}
use Rattle.interval_dom.proofs.interval.Interval.le.Goals as goal

pub returns-then-other-self-clause-numbers : goal.returns-then-other-self-clause-numbers
returns-then-other-self-clause-numbers c = (
  λ test n within. (grind (arith, ints), grind (arith, ints)),
  λ each.
      let ordered : c.args.self.lo ≤ℤ c.args.self.hi = subst (λ (b : Bounds). b.lo ≤ℤ b.hi) c.self.view_is c.self.invariant in
      let top = each c.args.self.hi (ordered, omega (arith, ints)) in grind (arith, ints),
)
