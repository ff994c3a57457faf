use Rattle.std.proofs.Common.{◌≡◌, ◌≤ℤ◌, ℤ, pos, get_or, FitsSigned, w64, to_z, of_z, rules, arith, subst, sym, ◌∙◌}
use Rattle.std.specs.Prelude.{int_lt, Contains}
use Rattle.std.proofs.lemmas.Int.{ints, to_z-of_z}
use Rattle.std.proofs.lemmas.List.Sorted.{IsPartitionPoint-from_clause}
use Rattle.interval_dom.specs.declared.width.Width.TheVariants.{W64}
use Rattle.interval_dom.specs.Ranges.{greatest}
use Rattle.interval_dom.specs.Marks.{mark_above}
use Rattle.interval_dom.proofs.Ascending.{IsPartitionedBy-int_lt}
use Rattle.interval_dom.proofs.Resting.{mark_above-none, mark_above-first, mark_above-outside, mark_above-within, Contains-mark_above}
use Rattle.interval_dom.proofs.interval.widening.mark_above.Goals as goal

first : (c : goal.After-result-1) → to_z w64 (of_z w64 (get_or c.args.marks.now c.partition_point-first.result (pos 0))) ≡ mark_above c.args.marks.now c.args.n
first c =
    let point = IsPartitionPoint-from_clause (λ m. int_lt m c.args.n) c.args.marks.now c.partition_point-first.result c.partition_point-first.ensures.partitioned (IsPartitionedBy-int_lt c.args.marks.now c.args.n c.requires) (λ a r q k. search rules) in
    let fits : FitsSigned w64 (get_or c.args.marks.now c.partition_point-first.result (pos 0)) = search rules in
    to_z-of_z w64 _ fits ∙ mark_above-first c.args.marks.now c.args.n (pos 0) c.partition_point-first.result c.requires point c.if-first-marks.true (omega (arith, ints))

pub returns-then-first-marks-clause-value : goal.returns-then-first-marks-clause-value
returns-then-first-marks-clause-value c = first c

pub returns-then-first-marks-clause-outside : goal.returns-then-first-marks-clause-outside
returns-then-first-marks-clause-outside c = subst (λ (m : ℤ). c.args.n ≤ℤ m) (sym (first c)) (mark_above-outside c.args.marks.now c.args.n (omega (arith, ints)))

none : (c : goal.Else-first-marks) → greatest W64 ≡ mark_above c.args.marks.now c.args.n
none c =
    let point = IsPartitionPoint-from_clause (λ m. int_lt m c.args.n) c.args.marks.now c.partition_point-first.result c.partition_point-first.ensures.partitioned (IsPartitionedBy-int_lt c.args.marks.now c.args.n c.requires) (λ a r q k. search rules) in
    mark_above-none c.args.marks.now c.args.n c.partition_point-first.result c.if-first-marks.false point

pub returns-else-first-marks-clause-value : goal.returns-else-first-marks-clause-value
returns-else-first-marks-clause-value c = none c

pub returns-else-first-marks-clause-mark : goal.returns-else-first-marks-clause-mark
returns-else-first-marks-clause-mark c some = subst (Contains c.args.marks.now) (sym (none c)) (Contains-mark_above c.args.marks.now c.args.n some)

pub returns-then-first-marks-clause-mark : goal.returns-then-first-marks-clause-mark
returns-then-first-marks-clause-mark c some = subst (Contains c.args.marks.now) (sym (first c)) (Contains-mark_above c.args.marks.now c.args.n some)

pub returns-else-first-marks-clause-within : goal.returns-else-first-marks-clause-within
returns-else-first-marks-clause-within c m one above = subst (λ (r : ℤ). r ≤ℤ m) (sym (none c)) (mark_above-within c.args.marks.now c.args.n m one above)

pub returns-then-first-marks-clause-within : goal.returns-then-first-marks-clause-within
returns-then-first-marks-clause-within c m one above = subst (λ (r : ℤ). r ≤ℤ m) (sym (first c)) (mark_above-within c.args.marks.now c.args.n m one above)
