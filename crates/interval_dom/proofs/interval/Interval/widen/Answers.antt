use Rattle.std.proofs.Common.{◌≡◌, arith, ap, FitsSigned, w64, rules}
use Rattle.std.proofs.lemmas.Int.{ints, to_z-of_z}
use Rattle.interval_dom.specs.Bounds.{Bounds}
use Rattle.interval_dom.proofs.interval.Interval.widen.Goals as goal

pub returns-clause-low_mark : goal.returns-clause-low_mark
returns-clause-low_mark c =
    let fits : FitsSigned w64 c.lowered.result = search rules in
    let old_fits : FitsSigned w64 c.self.inside.lo = search rules in
    let new_fits : FitsSigned w64 c.new.inside.lo = search rules in
    rw (← c.self.view_is, ← c.new.view_is, to_z-of_z w64 c.lowered.result fits) (simp to_z-of_z at c.lowered.ensures.mark)

pub returns-clause-high_mark : goal.returns-clause-high_mark
returns-clause-high_mark c =
    let fits : FitsSigned w64 c.raised.result = search rules in
    let old_fits : FitsSigned w64 c.self.inside.hi = search rules in
    let new_fits : FitsSigned w64 c.new.inside.hi = search rules in
    rw (← c.self.view_is, ← c.new.view_is, to_z-of_z w64 c.raised.result fits) (simp to_z-of_z at c.raised.ensures.mark)

pub returns-clause-within : goal.returns-clause-within
returns-clause-within c outer low_mark high_mark (low, high) (low', high') =
    let self_low : c.self.inside.lo ≡ c.args.self.lo = ap (λ (b : Bounds). b.lo) c.self.view_is in
    let self_high : c.self.inside.hi ≡ c.args.self.hi = ap (λ (b : Bounds). b.hi) c.self.view_is in
    let new_low : c.new.inside.lo ≡ c.args.new.lo = ap (λ (b : Bounds). b.lo) c.new.view_is in
    let new_high : c.new.inside.hi ≡ c.args.new.hi = ap (λ (b : Bounds). b.hi) c.new.view_is in
    let below = c.lowered.ensures.within outer.lo low_mark (omega (arith, ints)) (omega (arith, ints)) in
    let above = c.raised.ensures.within outer.hi high_mark (omega (arith, ints)) (omega (arith, ints)) in
    (omega (arith, ints), omega (arith, ints))
