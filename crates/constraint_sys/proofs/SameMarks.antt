-- A raise goes by the members of the thresholds, in whatever order they stand.
use Rattle.std.proofs.Common.{◌≡◌, ℤ, ◌≤ℤ◌, Bool, List, [], ◌∷◌, refl, sym, ap, subst, inl, inr, arith}
use Rattle.std.specs.Prelude.{Contains, filter, fold, int_le}
use Rattle.std.specs.Int.{int_min, int_max}
use Rattle.std.proofs.lemmas.Int.{ints, fold-int_max_bounds, fold-int_max_reached, fold-int_min_bounds, fold-int_min_reached}
use Rattle.std.proofs.lemmas.List.Elements.{All-contains}
use Rattle.interval_dom.specs.declared.width.Width.TheVariants.{W64}
use Rattle.interval_dom.specs.Bounds.{Bounds}
use Rattle.interval_dom.specs.Marks.{mark_below, mark_above, widened}
use Rattle.interval_dom.specs.Ranges.{least, greatest}
use Rattle.state_dom.specs.StateValue.{StateValue, Bottom, Reached, on_each, raised_by}
use Rattle.state_dom.specs.ThresholdValues.{HasSameMembers}
use Rattle.constraint_sys.specs.declared.value.Value.{Value}
use Rattle.constraint_sys.specs.declared.value.Value.TheVariants.{State, Number}
use Rattle.constraint_sys.specs.Turn.{raised_value}
use Rattle.constraint_sys.proofs.Ordered.{Contains-filter, Contains-filtered}

antisym : (a b : ℤ) → a ≤ℤ b → b ≤ℤ a → a ≡ b
antisym a b low high = omega (arith, ints)

filtered : (t : ℤ → Bool) (xs ys : List ℤ) → ((z : ℤ) → Contains xs z → Contains ys z) → (z : ℤ) → Contains (filter t xs) z → Contains (filter t ys) z
filtered t xs ys within z one = let both = Contains-filter t xs z one in Contains-filtered t ys z (within z both.0) both.1

greatest_within : (a : ℤ) (xs ys : List ℤ) → ((z : ℤ) → Contains xs z → Contains ys z) → fold int_max a xs ≤ℤ fold int_max a ys
greatest_within a xs ys within = elim (fold-int_max_reached a xs (fold int_max a xs) refl) [
  | inl first ↦ subst (λ (r : ℤ). r ≤ℤ fold int_max a ys) (sym first) (fold-int_max_bounds a ys (fold int_max a ys) refl).0
  | inr one ↦ All-contains (λ (z : ℤ). z ≤ℤ fold int_max a ys) ys (fold int_max a xs) (fold-int_max_bounds a ys (fold int_max a ys) refl).1 (within (fold int_max a xs) one)
]

least_within : (a : ℤ) (xs ys : List ℤ) → ((z : ℤ) → Contains xs z → Contains ys z) → fold int_min a ys ≤ℤ fold int_min a xs
least_within a xs ys within = elim (fold-int_min_reached a xs (fold int_min a xs) refl) [
  | inl first ↦ subst (λ (r : ℤ). fold int_min a ys ≤ℤ r) (sym first) (fold-int_min_bounds a ys (fold int_min a ys) refl).0
  | inr one ↦ All-contains (λ (z : ℤ). fold int_min a ys ≤ℤ z) ys (fold int_min a xs) (fold-int_min_bounds a ys (fold int_min a ys) refl).1 (within (fold int_min a xs) one)
]

module _ (xs ys : List ℤ) (there : (z : ℤ) → Contains xs z → Contains ys z) (back : (z : ℤ) → Contains ys z → Contains xs z) where
  mark_below-same : (n : ℤ) → mark_below xs n ≡ mark_below ys n
  mark_below-same n =
      let t : ℤ → Bool = λ m. int_le m n in
      antisym _ _ (greatest_within (least W64) (filter t xs) (filter t ys) (filtered t xs ys there)) (greatest_within (least W64) (filter t ys) (filter t xs) (filtered t ys xs back))

  mark_above-same : (n : ℤ) → mark_above xs n ≡ mark_above ys n
  mark_above-same n =
      let t : ℤ → Bool = λ m. int_le n m in
      antisym _ _ (least_within (greatest W64) (filter t ys) (filter t xs) (filtered t ys xs back)) (least_within (greatest W64) (filter t xs) (filter t ys) (filtered t xs ys there))

  widened-same : (a b : Bounds) → widened a b xs ≡ widened a b ys
  widened-same a b = rw (mark_below-same b.lo, mark_above-same b.hi) refl

  on_each-same : (left right : List Bounds) → on_each (λ x y. widened x y xs) left right ≡ on_each (λ x y. widened x y ys) left right
  on_each-same [] right = refl
  on_each-same (a ∷ left) [] = refl
  on_each-same (a ∷ left) (b ∷ right) = rw (widened-same a b, on_each-same left right) refl

  raised_by-same : (a b : StateValue) → raised_by xs a b ≡ raised_by ys a b
  raised_by-same (Bottom room) b = refl
  raised_by-same (Reached slots locks) (Bottom room) = refl
  raised_by-same (Reached slots locks) (Reached others other_locks) = rw (on_each-same slots others) refl

pub raised_value-members : (xs ys : List ℤ) → HasSameMembers xs ys → (old new : Value) → raised_value xs old new ≡ raised_value ys old new
raised_value-members xs ys same (State a) (State b) = ap State (raised_by-same xs ys (λ z. (same z).0) (λ z. (same z).1) a b)
raised_value-members xs ys same (State a) (Number y) = refl
raised_value-members xs ys same (Number x) (State b) = refl
raised_value-members xs ys same (Number x) (Number y) = ap Number (widened-same xs ys (λ z. (same z).0) (λ z. (same z).1) x y)
