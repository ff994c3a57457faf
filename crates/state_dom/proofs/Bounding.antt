-- States that bound others.
use Rattle.std.proofs.Common.{◌≡◌, ℕ, ℤ, false, List, [], ◌∷◌, ◌++◌, arith, refl, sym, ap, inl, inr, bit_and}
use Rattle.std.specs.Int.{bit_at}
use Rattle.std.specs.Prelude.{int_lt}
use Rattle.std.proofs.lemmas.Bool.{cases_eq}
use Rattle.std.proofs.lemmas.Int.{ints}
use Rattle.std.proofs.lemmas.Nat.Bits.{bit_at_and, bit_at-lt, same_from_bits}
use Rattle.interval_dom.specs.Bounds.{Bounds, Covers}
use Rattle.interval_dom.specs.Marks.{widened}
use Rattle.lockset_dom.specs.Members.{Includes, shared_members}
use Rattle.state_dom.specs.StateValue.{StateValue, Bottom, Reached, room_of, CoversEach, CoversState, on_each, raised_by}

pub CoversEach-refl : (xs : List Bounds) → CoversEach xs xs
CoversEach-refl [] = tt
CoversEach-refl (x ∷ xs) = ((omega (arith, ints), omega (arith, ints)), CoversEach-refl xs)

pub CoversState-refl : (s : StateValue) → CoversState s s
CoversState-refl (Bottom room) = tt
CoversState-refl (Reached slots locks) = (CoversEach-refl slots, λ m held. held)

pub CoversEach-snoc : (xs ys : List Bounds) (x y : Bounds) → CoversEach xs ys → Covers x y → CoversEach (xs ++ x ∷ []) (ys ++ y ∷ [])
CoversEach-snoc [] [] x y each last = (last, tt)
CoversEach-snoc [] (z ∷ ys) x y each last = absurd each
CoversEach-snoc (z ∷ xs) [] x y each last = absurd each
CoversEach-snoc (z ∷ xs) (u ∷ ys) x y each last = (each.0, CoversEach-snoc xs ys x y each.1 last)

-- an interval whose ends don't move stays as it is
widened-covered : (marks : List ℤ) (x y : Bounds) → Covers x y → widened x y marks ≡ x
widened-covered marks x y covers =
    let low : int_lt y.lo x.lo ≡ false = grind (arith, ints) in
    let high : int_lt x.hi y.hi ≡ false = grind (arith, ints) in
    rw (low, high) refl

on_each-covered : (marks : List ℤ) (xs ys : List Bounds) → CoversEach xs ys → on_each (λ x y. widened x y marks) xs ys ≡ xs
on_each-covered marks [] [] each = refl
on_each-covered marks [] (y ∷ ys) each = refl
on_each-covered marks (x ∷ xs) [] each = absurd each
on_each-covered marks (x ∷ xs) (y ∷ ys) each = rw (widened-covered marks x y each.0, on_each-covered marks xs ys each.1) refl

pub locks-covered : (locks others : ℕ) → Includes others locks → shared_members locks others ≡ locks
locks-covered locks others inside = same_from_bits (bit_and locks others) locks (λ k. elim (cases_eq (bit_at locks k) 1) [
  | inl held ↦ omega (arith, bit_at_and locks others k, held, inside k held)
  | inr free ↦ omega (arith, bit_at_and locks others k, bit_at-lt locks k, free)
])

-- a state that bounds another isn't raised by it
pub raised_by-covered : (marks : List ℤ) (old new : StateValue) → room_of old ≡ room_of new → CoversState old new → raised_by marks old new ≡ old
raised_by-covered marks (Bottom room) (Bottom other) same covers = ap Bottom (sym same)
raised_by-covered marks (Bottom room) (Reached others other_locks) same covers = absurd covers
raised_by-covered marks (Reached slots locks) (Bottom other) same covers = refl
raised_by-covered marks (Reached slots locks) (Reached others other_locks) same covers =
    rw (on_each-covered marks slots others covers.0, locks-covered locks other_locks covers.1) refl
