-- One slot of a list of intervals, with the number that it holds.
use Rattle.std.proofs.Common.{◌≡◌, ℕ, zero, suc, ◌<◌, ℤ, List, [], ◌∷◌, length, Some, IsTrue, IsSomeAnd, arith, subst, sym}
use Rattle.std.specs.Prelude.{slice_get, slice_set}
use Rattle.gob_tree.specs.Widths.{fits}
use Rattle.gob_tree.specs.declared.unit.Slot.{Slot}
use Rattle.c_meaning.specs.Demand.{slot_width, value_at}
use Rattle.interval_dom.specs.Bounds.{Bounds, Describes, Covers}
use Rattle.interval_dom.proofs.Within.{Covers-refl}
use Rattle.state_dom.specs.StateValue.{HoldsEach, DescribesEach, CoversEach}
use Rattle.state_dom.proofs.Bounding.{CoversEach-refl}

some_is : (x v : Bounds) → Some x ≡ Some v → x ≡ v
some_is x v e = cc

-- a slot that is there
pub slot_described : (slots : List Slot) (xs : List Bounds) (ns : List ℤ) (x : ℕ) → x < length slots → HoldsEach slots ns → DescribesEach xs ns
    → IsTrue (fits (slot_width slots x) (value_at ns x)) × IsSomeAnd (slice_get xs x) (λ v. Describes v (value_at ns x))
slot_described [] xs ns x within holds described = absurd (omega arith)
slot_described (slot ∷ slots) xs [] x within holds described = absurd holds
slot_described (slot ∷ slots) [] (n ∷ ns) x within holds described = absurd described
slot_described (slot ∷ slots) (y ∷ xs) (n ∷ ns) zero within holds described = (holds.0, described.0)
slot_described (slot ∷ slots) (y ∷ xs) (n ∷ ns) (suc x) within holds described = slot_described slots xs ns x (omega arith) holds.1 described.1

-- the number of a slot whose interval is known
pub value_described : (xs : List Bounds) (ns : List ℤ) (x : ℕ) (v : Bounds) → slice_get xs x ≡ Some v → DescribesEach xs ns → Describes v (value_at ns x)
value_described [] ns x v at described = absurd (cc)
value_described (y ∷ xs) [] x v at described = absurd described
value_described (y ∷ xs) (n ∷ ns) zero v at described = subst (λ (b : Bounds). Describes b n) (some_is y v at) described.0
value_described (y ∷ xs) (n ∷ ns) (suc x) v at described = value_described xs ns x v at described.1

-- a slot with another interval for the same number
pub DescribesEach-refined : (xs : List Bounds) (ns : List ℤ) (x : ℕ) (v : Bounds) → Describes v (value_at ns x) → DescribesEach xs ns → DescribesEach (slice_set xs x v) ns
DescribesEach-refined [] ns x v within described = described
DescribesEach-refined (y ∷ xs) [] x v within described = absurd described
DescribesEach-refined (y ∷ xs) (n ∷ ns) zero v within described = (within, described.1)
DescribesEach-refined (y ∷ xs) (n ∷ ns) (suc x) v within described = (described.0, DescribesEach-refined xs ns x v within described.1)

-- a slot with another number in another interval
pub DescribesEach-set : (xs : List Bounds) (ns : List ℤ) (x : ℕ) (v : Bounds) (n : ℤ) → Describes v n → DescribesEach xs ns → DescribesEach (slice_set xs x v) (slice_set ns x n)
DescribesEach-set [] [] x v n within described = tt
DescribesEach-set [] (m ∷ ns) x v n within described = absurd described
DescribesEach-set (y ∷ xs) [] x v n within described = absurd described
DescribesEach-set (y ∷ xs) (m ∷ ns) zero v n within described = (within, described.1)
DescribesEach-set (y ∷ xs) (m ∷ ns) (suc x) v n within described = (described.0, DescribesEach-set xs ns x v n within described.1)

pub HoldsEach-set : (slots : List Slot) (ns : List ℤ) (x : ℕ) (n : ℤ) → IsTrue (fits (slot_width slots x) n) → HoldsEach slots ns → HoldsEach slots (slice_set ns x n)
HoldsEach-set [] [] x n fit holds = tt
HoldsEach-set [] (m ∷ ns) x n fit holds = absurd holds
HoldsEach-set (slot ∷ slots) [] x n fit holds = absurd holds
HoldsEach-set (slot ∷ slots) (m ∷ ns) zero n fit holds = (fit, holds.1)
HoldsEach-set (slot ∷ slots) (m ∷ ns) (suc x) n fit holds = (holds.0, HoldsEach-set slots ns x n fit holds.1)

-- a slot with a narrower interval
pub CoversEach-set : (xs : List Bounds) (x : ℕ) (v u : Bounds) → slice_get xs x ≡ Some v → Covers v u → CoversEach xs (slice_set xs x u)
CoversEach-set [] x v u at covers = absurd (cc)
CoversEach-set (y ∷ xs) zero v u at covers = (subst (λ (b : Bounds). Covers b u) (sym (some_is y v at)) covers, CoversEach-refl xs)
CoversEach-set (y ∷ xs) (suc x) v u at covers = (Covers-refl y, CoversEach-set xs x v u at covers)
