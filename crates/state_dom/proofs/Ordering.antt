-- The order of states, what lies below a state, and states that bound two.
use Rattle.std.proofs.Common.{◌≡◌, refl, ap, suc, ℤ, ◌≤ℤ◌, true, List, [], ◌∷◌, length, arith}
use Rattle.std.specs.Prelude.{int_lt}
use Rattle.std.proofs.lemmas.Bool.{cond_both}
use Rattle.std.proofs.lemmas.Int.{ints, clamps}
use Rattle.gob_tree.specs.declared.unit.Slot.{Slot}
use Rattle.interval_dom.specs.Bounds.{Bounds, Covers, hull}
use Rattle.interval_dom.specs.Marks.{mark_below, mark_above, widened}
use Rattle.interval_dom.specs.declared.width.Width.TheVariants.{W64 as Bits64}
use Rattle.interval_dom.specs.Ranges.{full}
use Rattle.interval_dom.proofs.Resting.{mark_below-outside, mark_above-outside}
use Rattle.interval_dom.proofs.Within.{Covers-trans, Covers-wide, widened-bounds}
use Rattle.lockset_dom.proofs.Membership.{Holds-shared_members}
use Rattle.state_dom.specs.Laws.{OrderDescribes, OrderIsTransitive, JoinBounds, RaiseBounds}
use Rattle.state_dom.specs.Operators.{interval_width_of}
use Rattle.state_dom.specs.StateValue.{Bottom, Reached, CoversEach, DescribesEach, FitsEach, on_each}
use Rattle.state_dom.proofs.Bounding.{CoversState-refl}

pub CoversEach-trans : (xs ys zs : List Bounds) → CoversEach xs ys → CoversEach ys zs → CoversEach xs zs
CoversEach-trans [] [] zs first second = second
CoversEach-trans [] (y ∷ ys) zs first second = absurd first
CoversEach-trans (x ∷ xs) [] zs first second = absurd first
CoversEach-trans (x ∷ xs) (y ∷ ys) [] first second = absurd second
CoversEach-trans (x ∷ xs) (y ∷ ys) (z ∷ zs) first second = (Covers-trans x y z first.0 second.0, CoversEach-trans xs ys zs first.1 second.1)

pub length-covered : (xs ys : List Bounds) → CoversEach xs ys → length xs ≡ length ys
length-covered [] [] covers = refl
length-covered [] (y ∷ ys) covers = absurd covers
length-covered (x ∷ xs) [] covers = absurd covers
length-covered (x ∷ xs) (y ∷ ys) covers = ap suc (length-covered xs ys covers.1)

pub CoversState-trans : OrderIsTransitive
CoversState-trans a b (Bottom room) first second = tt
CoversState-trans a (Bottom room) (Reached zs last) first second = absurd second
CoversState-trans (Bottom room) (Reached ys others) (Reached zs last) first second = absurd first
CoversState-trans (Reached xs locks) (Reached ys others) (Reached zs last) first second =
    (CoversEach-trans xs ys zs first.0 second.0, λ m held. second.1 m (first.1 m held))

DescribesEach-covered : (xs ys : List Bounds) (ns : List ℤ) → CoversEach xs ys → DescribesEach ys ns → DescribesEach xs ns
DescribesEach-covered [] [] ns covers described = described
DescribesEach-covered [] (y ∷ ys) ns covers described = absurd covers
DescribesEach-covered (x ∷ xs) [] ns covers described = absurd covers
DescribesEach-covered (x ∷ xs) (y ∷ ys) [] covers described = absurd described
DescribesEach-covered (x ∷ xs) (y ∷ ys) (n ∷ ns) covers described =
    ((omega (arith, ints, covers.0.0, described.0.0), omega (arith, ints, covers.0.1, described.0.1)), DescribesEach-covered xs ys ns covers.1 described.1)

pub DescribesState-covered : OrderDescribes
DescribesState-covered slots outer (Bottom room) values owners thread covers described = absurd described
DescribesState-covered slots (Bottom room) (Reached ys others) values owners thread covers described = absurd covers
DescribesState-covered slots (Reached xs locks) (Reached ys others) values owners thread covers described =
    (described.0, DescribesEach-covered xs ys values covers.0 described.1, λ m held. described.2 m (covers.1 m held))

-- ---- joins and raises

CoversEach-on_each : (f : Bounds → Bounds → Bounds) → (slots : List Slot) (xs ys : List Bounds)
    → ((x y : Bounds) → Covers (full Bits64) y → Covers (f x y) x × Covers (f x y) y)
    → FitsEach slots xs → FitsEach slots ys → CoversEach (on_each f xs ys) xs × CoversEach (on_each f xs ys) ys
CoversEach-on_each f [] [] [] bounds left right = (tt, tt)
CoversEach-on_each f [] [] (y ∷ ys) bounds left right = absurd right
CoversEach-on_each f [] (x ∷ xs) ys bounds left right = absurd left
CoversEach-on_each f (slot ∷ slots) [] ys bounds left right = absurd left
CoversEach-on_each f (slot ∷ slots) (x ∷ xs) [] bounds left right = absurd right
CoversEach-on_each f (slot ∷ slots) (x ∷ xs) (y ∷ ys) bounds left right =
    let here = bounds x y (Covers-wide (interval_width_of slot.width) y right.0) in
    let rest = CoversEach-on_each f slots xs ys bounds left.1 right.1 in
    ((here.0, rest.0), (here.1, rest.1))

hull_bounds : (x y : Bounds) → Covers (full Bits64) y → Covers (hull x y) x × Covers (hull x y) y
hull_bounds x y wide = ((omega (arith, ints, clamps), omega (arith, ints, clamps)), (omega (arith, ints, clamps), omega (arith, ints, clamps)))

pub CoversState-join : JoinBounds
CoversState-join slots (Bottom room) b left right = (tt, CoversState-refl b)
CoversState-join slots (Reached xs locks) (Bottom room) left right = (CoversState-refl (Reached xs locks), tt)
CoversState-join slots (Reached xs locks) (Reached ys others) left right =
    let each = CoversEach-on_each hull slots xs ys hull_bounds left right in (
      (each.0, λ m held. ((Holds-shared_members locks others m).0 held).0),
      (each.1, λ m held. ((Holds-shared_members locks others m).0 held).1),
    )

le_trans : (x y z : ℤ) → x ≤ℤ y → y ≤ℤ z → x ≤ℤ z
le_trans x y z p q = omega (arith, ints)

lt_le : (x y : ℤ) → int_lt x y ≡ true → x ≤ℤ y
lt_le x y e = grind (arith, ints)

same_le : (x : ℤ) → x ≤ℤ x
same_le x = omega (arith, ints)

widened_old : (marks : List ℤ) (x y : Bounds) → Covers (full Bits64) y → Covers (widened x y marks) x
widened_old marks x y wide = (
  cond_both (int_lt y.lo x.lo) (mark_below marks y.lo) x.lo (λ r. r ≤ℤ x.lo) (λ moves. le_trans (mark_below marks y.lo) y.lo x.lo (mark_below-outside marks y.lo wide.0) (lt_le y.lo x.lo moves)) (λ stays. same_le x.lo),
  cond_both (int_lt x.hi y.hi) (mark_above marks y.hi) x.hi (λ r. x.hi ≤ℤ r) (λ moves. le_trans x.hi y.hi (mark_above marks y.hi) (lt_le x.hi y.hi moves) (mark_above-outside marks y.hi wide.1)) (λ stays. same_le x.hi),
)

pub CoversState-raise : RaiseBounds
CoversState-raise slots marks (Bottom room) b left right = (tt, CoversState-refl b)
CoversState-raise slots marks (Reached xs locks) (Bottom room) left right = (CoversState-refl (Reached xs locks), tt)
CoversState-raise slots marks (Reached xs locks) (Reached ys others) left right =
    let each = CoversEach-on_each (λ x y. widened x y marks) slots xs ys (λ x y wide. (widened_old marks x y wide, widened-bounds marks x y wide)) left right in (
      (each.0, λ m held. ((Holds-shared_members locks others m).0 held).0),
      (each.1, λ m held. ((Holds-shared_members locks others m).0 held).1),
    )
