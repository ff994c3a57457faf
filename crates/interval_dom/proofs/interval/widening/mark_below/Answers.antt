use Rattle.std.proofs.Common.{◌≡◌, ◌≤ℤ◌, ◌-◌, ℕ, ℤ, pos, true, false, get_or, FitsSigned, w64, to_z, of_z, rules, arith, subst, sym, ◌∙◌}
use Rattle.std.specs.Prelude.{int_le, Contains}
use Rattle.std.specs.List.Sorted.{IsPartitionPoint}
use Rattle.std.proofs.lemmas.Int.{ints, to_z-of_z}
use Rattle.std.proofs.lemmas.List.Sorted.{IsPartitionPoint-from_clause}
use Rattle.interval_dom.specs.declared.width.Width.TheVariants.{W64}
use Rattle.interval_dom.specs.Ranges.{least}
use Rattle.interval_dom.specs.Marks.{mark_below}
use Rattle.interval_dom.proofs.Ascending.{IsPartitionedBy-int_le}
use Rattle.interval_dom.proofs.Resting.{mark_below-none, mark_below-last, mark_below-outside, mark_below-within, Contains-mark_below}
use Rattle.interval_dom.proofs.interval.widening.mark_below.Goals as goal

none : (c : goal.Then-above-eq0) → least W64 ≡ mark_below c.args.marks.now c.args.n
none c =
    let point = IsPartitionPoint-from_clause (λ m. int_le m c.args.n) c.args.marks.now c.partition_point-above.result c.partition_point-above.ensures.partitioned (IsPartitionedBy-int_le c.args.marks.now c.args.n c.requires) (λ a r q k. search rules) in
    mark_below-none c.args.marks.now c.args.n (subst (λ (p : ℕ). IsPartitionPoint (λ m. int_le m c.args.n ≡ true) (λ m. int_le m c.args.n ≡ false) c.args.marks.now p) c.if-above-eq0.true point)

pub returns-then-above-eq0-clause-value : goal.returns-then-above-eq0-clause-value
returns-then-above-eq0-clause-value c = none c

pub returns-then-above-eq0-clause-mark : goal.returns-then-above-eq0-clause-mark
returns-then-above-eq0-clause-mark c some = subst (Contains c.args.marks.now) (sym (none c)) (Contains-mark_below c.args.marks.now c.args.n some)

last : (c : goal.After-result-1) → to_z w64 (of_z w64 (get_or c.args.marks.now (c.partition_point-above.result - 1) (pos 0))) ≡ mark_below c.args.marks.now c.args.n
last c =
    let point = IsPartitionPoint-from_clause (λ m. int_le m c.args.n) c.args.marks.now c.partition_point-above.result c.partition_point-above.ensures.partitioned (IsPartitionedBy-int_le c.args.marks.now c.args.n c.requires) (λ a r q k. search rules) in
    let fits : FitsSigned w64 (get_or c.args.marks.now (c.partition_point-above.result - 1) (pos 0)) = search rules in
    to_z-of_z w64 _ fits ∙ mark_below-last c.args.marks.now c.args.n (pos 0) c.partition_point-above.result c.requires point (omega arith) c.partition_point-above.ensures.bound (omega (arith, ints))

pub returns-else-above-eq0-clause-value : goal.returns-else-above-eq0-clause-value
returns-else-above-eq0-clause-value c = last c

pub returns-else-above-eq0-clause-outside : goal.returns-else-above-eq0-clause-outside
returns-else-above-eq0-clause-outside c = subst (λ (m : ℤ). m ≤ℤ c.args.n) (sym (last c)) (mark_below-outside c.args.marks.now c.args.n (omega (arith, ints)))

pub returns-else-above-eq0-clause-mark : goal.returns-else-above-eq0-clause-mark
returns-else-above-eq0-clause-mark c some = subst (Contains c.args.marks.now) (sym (last c)) (Contains-mark_below c.args.marks.now c.args.n some)

pub returns-then-above-eq0-clause-within : goal.returns-then-above-eq0-clause-within
returns-then-above-eq0-clause-within c m one below = subst (λ (r : ℤ). m ≤ℤ r) (sym (none c)) (mark_below-within c.args.marks.now c.args.n m one below)

pub returns-else-above-eq0-clause-within : goal.returns-else-above-eq0-clause-within
returns-else-above-eq0-clause-within c m one below = subst (λ (r : ℤ). m ≤ℤ r) (sym (last c)) (mark_below-within c.args.marks.now c.args.n m one below)
