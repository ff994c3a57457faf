-- The examples of states, worked out.
use Rattle.std.proofs.Common.{◌≡◌, ℕ, pos, negsuc, List, [], ◌∷◌, Option, None, Some, true≢false, refl, sym, subst, inl, inr, arith}
use Rattle.std.specs.Prelude.{slice_index_or}
use Rattle.std.specs.Int.{int_wrap}
use Rattle.std.proofs.lemmas.Bool.{cases_eq}
use Rattle.std.proofs.lemmas.Int.{ints}
use Rattle.std.proofs.lemmas.Nat.Bits.{bit_at-pow_other, bit_at-zero}
use Rattle.gob_tree.specs.declared.expr.Width.TheVariants.{W32, W64}
use Rattle.c_meaning.specs.Demand.{with_slot}
use Rattle.lockset_dom.specs.Members.{Holds, Includes, shared_members}
use Rattle.lockset_dom.proofs.Membership.{Holds-shared_members}
use Rattle.state_dom.specs.Examples.{two_ints, to_ten, five_to_eight, just}
use Rattle.state_dom.specs.Operators.{converted_to}
use Rattle.state_dom.specs.StateExamples.{one, an_int, a_long, one_to_ten, to_nine, above_int, to_above_int, second_mutex, third_mutex, two_mutexes, three_and_five, owners, known}
use Rattle.state_dom.specs.StateValue.{Bottom, Reached, CoversState, DescribesState, HasShape, Narrows, OwnsEach}

-- ---- sets of mutexes

includes : (outer inner : ℕ) → shared_members outer inner ≡ inner → Includes outer inner
includes outer inner same = λ m held. ((Holds-shared_members outer inner m).0 (subst (λ (set : ℕ). Holds set m) (sym same) held)).0

no_mutexes : (outer : ℕ) → Includes outer 0
no_mutexes outer = λ m held. absurd (omega (arith, bit_at-zero m, held))

abbrev OwnedBy : ℕ → ℕ → Type 0
OwnedBy t m = slice_index_or (None ∷ Some t ∷ []) m None ≡ Some t

owns_second : (t : ℕ) → OwnsEach (None ∷ Some t ∷ []) t second_mutex
owns_second t = λ m held. elim (cases_eq m 1) [
  | inl same ↦ subst (λ (k : ℕ). OwnedBy t k) (sym same) refl
  | inr other ↦ absurd (omega (arith, bit_at-pow_other 1 m other, held))
]

owns_none : (owned : List (Option ℕ)) (t : ℕ) → OwnsEach owned t 0
owns_none owned t = λ m held. absurd (omega (arith, bit_at-zero m, held))

abbrev owner : ℕ → Option ℕ
owner t = Some t

abbrev nobody : Option ℕ
nobody = None

owners_differ : owner 7 ≡ owner 1 → ⊥
owners_differ e = cc

owned_or_not : nobody ≡ owner 7 → ⊥
owned_or_not e = cc

-- ---- order

pub wider : CoversState (one to_ten 0) (one five_to_eight 0)
wider = (((omega (arith, ints), omega (arith, ints)), tt), no_mutexes 0)

pub fewer_mutexes : CoversState (one to_ten second_mutex) (one to_ten two_mutexes)
fewer_mutexes = (((omega (arith, ints), omega (arith, ints)), tt), includes two_mutexes second_mutex refl)

pub low_end : ¬ CoversState (one one_to_ten 0) (one to_ten 0)
low_end = λ covers. omega (arith, ints, covers.0.0.0)

pub high_end : ¬ CoversState (one to_nine 0) (one to_ten 0)
high_end = λ covers. omega (arith, ints, covers.0.0.1)

pub more_mutexes : ¬ CoversState (one to_ten two_mutexes) (one to_ten second_mutex)
more_mutexes = λ covers. omega (arith, covers.1 2 refl)

pub from_bottom : ¬ CoversState (Bottom 1) (one to_ten 0)
from_bottom = λ covers. covers

pub other_room : ¬ CoversState (Reached (to_ten ∷ to_ten ∷ []) 0) (one to_ten 0)
other_room = λ covers. covers.0.1

-- ---- descriptions

pub described : DescribesState two_ints known three_and_five owners 7
described = ((refl, (refl, tt)), ((omega (arith, ints), omega (arith, ints)), ((omega (arith, ints), omega (arith, ints)), tt)), owns_second 7)

pub below : ¬ DescribesState two_ints known (negsuc 0 ∷ pos 5 ∷ []) owners 7
below = λ d. omega (arith, ints, d.1.0.0)

pub above : ¬ DescribesState two_ints known (pos 3 ∷ pos 9 ∷ []) owners 7
above = λ d. omega (arith, ints, d.1.1.0.1)

pub not_of_the_width : ¬ DescribesState an_int (one to_above_int 0) (above_int ∷ []) [] 7
not_of_the_width = λ d. true≢false (sym d.0.0)

pub of_the_width : DescribesState a_long (one to_above_int 0) (above_int ∷ []) [] 7
of_the_width = ((refl, tt), ((omega (arith, ints), omega (arith, ints)), tt), owns_none [] 7)

pub owned_by_another : ¬ DescribesState two_ints known three_and_five owners 1
owned_by_another = λ d. owners_differ (d.2 1 refl)

pub owned_by_nobody : ¬ DescribesState two_ints known three_and_five (None ∷ None ∷ []) 7
owned_by_nobody = λ d. owned_or_not (d.2 1 refl)

pub a_value_less : ¬ DescribesState two_ints known (pos 3 ∷ []) owners 7
a_value_less = λ d. d.0.1

pub bottom : ¬ DescribesState two_ints (Bottom 2) three_and_five owners 7
bottom = λ d. d

-- ---- shapes

pub in_width : HasShape an_int (one to_ten 0)
in_width = ((omega (arith, ints), omega (arith, ints)), tt)

pub in_wide_width : HasShape a_long (one to_above_int 0)
in_wide_width = ((omega (arith, ints), omega (arith, ints)), tt)

pub out_of_width : ¬ HasShape an_int (one to_above_int 0)
out_of_width = λ fits. omega (arith, ints, fits.0.1)

pub slot_too_many : ¬ HasShape an_int (Reached (to_ten ∷ to_ten ∷ []) 0)
slot_too_many = λ fits. fits.1

pub room_of_another : ¬ HasShape an_int (Bottom 2)
room_of_another = λ same. omega (arith, same)

pub narrower : Narrows (one to_ten 1) (one to_nine 1)
narrower = (((omega (arith, ints), omega (arith, ints)), tt), refl)

pub not_wider : ¬ Narrows (one to_nine 1) (one to_ten 1)
not_wider = λ narrows. omega (arith, ints, narrows.0.0.1)

pub not_other_mutexes : ¬ Narrows (one to_ten 1) (one to_ten 0)
not_other_mutexes = λ narrows. omega (arith, narrows.1)

pub not_from_bottom : ¬ Narrows (Bottom 1) (one to_ten 0)
not_from_bottom = λ same. cc

-- ---- stores

pub stored : DescribesState an_int (one (converted_to W32 (just above_int)) 0) (with_slot an_int 0 above_int (pos 3 ∷ [])) [] 7
unfolding int_wrap
stored = ((refl, tt), ((omega (arith, ints), omega (arith, ints)), tt), owns_none [] 7)

pub stored_as_it_is : ¬ DescribesState an_int (one (just above_int) 0) (with_slot an_int 0 above_int (pos 3 ∷ [])) [] 7
unfolding int_wrap
stored_as_it_is = λ d. omega (arith, ints, d.1.0.0)
