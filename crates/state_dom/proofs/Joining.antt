-- A join of two states, one of which is described.
use Rattle.std.proofs.Common.{ℕ, ℤ, List, [], ◌∷◌, Option, arith}
use Rattle.std.proofs.lemmas.Int.{ints, clamps}
use Rattle.gob_tree.specs.declared.unit.Slot.{Slot}
use Rattle.interval_dom.specs.Bounds.{Bounds, hull}
use Rattle.lockset_dom.proofs.Membership.{Holds-shared_members}
use Rattle.state_dom.specs.StateValue.{StateValue, Bottom, Reached, Narrows, CoversEach, DescribesEach, DescribesState, on_each, join_of}

hulls_left : (xs ys zs : List Bounds) (ns : List ℤ) → CoversEach xs ys → CoversEach xs zs → DescribesEach ys ns → DescribesEach (on_each hull ys zs) ns
hulls_left [] [] zs ns first second described = described
hulls_left [] (y ∷ ys) zs ns first second described = absurd first
hulls_left (x ∷ xs) [] zs ns first second described = absurd first
hulls_left (x ∷ xs) (y ∷ ys) [] ns first second described = absurd second
hulls_left (x ∷ xs) (y ∷ ys) (z ∷ zs) [] first second described = absurd described
hulls_left (x ∷ xs) (y ∷ ys) (z ∷ zs) (n ∷ ns) first second described =
    ((omega (arith, ints, clamps, described.0.0), omega (arith, ints, clamps, described.0.1)), hulls_left xs ys zs ns first.1 second.1 described.1)

hulls_right : (xs ys zs : List Bounds) (ns : List ℤ) → CoversEach xs ys → CoversEach xs zs → DescribesEach zs ns → DescribesEach (on_each hull ys zs) ns
hulls_right [] [] [] ns first second described = described
hulls_right [] [] (z ∷ zs) ns first second described = absurd second
hulls_right [] (y ∷ ys) zs ns first second described = absurd first
hulls_right (x ∷ xs) [] zs ns first second described = absurd first
hulls_right (x ∷ xs) (y ∷ ys) [] ns first second described = absurd second
hulls_right (x ∷ xs) (y ∷ ys) (z ∷ zs) [] first second described = absurd described
hulls_right (x ∷ xs) (y ∷ ys) (z ∷ zs) (n ∷ ns) first second described =
    ((omega (arith, ints, clamps, described.0.0), omega (arith, ints, clamps, described.0.1)), hulls_right xs ys zs ns first.1 second.1 described.1)

-- two states that are narrower than one have a join that describes what either describes
pub joined_left : (slots : List Slot) (s a b : StateValue) (values : List ℤ) (owners : List (Option ℕ)) (thread : ℕ) → Narrows s a → Narrows s b → DescribesState slots a values owners thread → DescribesState slots (join_of a b) values owners thread
joined_left slots s (Bottom room) b values owners thread left right described = absurd described
joined_left slots s (Reached ys others) (Bottom room) values owners thread left right described = described
joined_left slots (Bottom room) (Reached ys others) (Reached zs last) values owners thread left right described = absurd (cc)
joined_left slots (Reached xs locks) (Reached ys others) (Reached zs last) values owners thread left right described =
    (described.0, hulls_left xs ys zs values left.0 right.0 described.1, λ m held. described.2 m ((Holds-shared_members others last m).0 held).0)

pub joined_right : (slots : List Slot) (s a b : StateValue) (values : List ℤ) (owners : List (Option ℕ)) (thread : ℕ) → Narrows s a → Narrows s b → DescribesState slots b values owners thread → DescribesState slots (join_of a b) values owners thread
joined_right slots s a (Bottom room) values owners thread left right described = absurd described
joined_right slots s (Bottom room) (Reached zs last) values owners thread left right described = described
joined_right slots (Bottom room) (Reached ys others) (Reached zs last) values owners thread left right described = absurd (cc)
joined_right slots (Reached xs locks) (Reached ys others) (Reached zs last) values owners thread left right described =
    (described.0, hulls_right xs ys zs values left.0 right.0 described.1, λ m held. described.2 m ((Holds-shared_members others last m).0 held).1)
