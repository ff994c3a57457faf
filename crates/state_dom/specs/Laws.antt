-- What the operations keep of the states that a run goes through.
use Rattle.std.specs.Prelude.{◌≡◌, ◌⊎◌, ℕ, ℤ, Bool, not, List, [], ◌∷◌, Option, Ok, Contains, IsTrue, IsSomeAnd, length, slice_set}
use Rattle.gob_tree.specs.Widths.{lowest, greatest}
use Rattle.gob_tree.specs.Formed.{is_plain}
use Rattle.gob_tree.specs.declared.expr.Expr.{Expr}
use Rattle.gob_tree.specs.declared.unit.Slot.{Slot}
use Rattle.c_meaning.specs.Demand.{slot_width, value_of, is_zero, with_slot}
use Rattle.interval_dom.specs.Bounds.{Bounds, Describes}
use Rattle.state_dom.specs.Evaluation.{interval_of, guarded_by}
use Rattle.state_dom.specs.Operators.{converted_to}
use Rattle.state_dom.specs.StateValue.{StateValue, Reached, HoldsEach, DescribesEach, DescribesState, slots_of, CoversState, FitsEach, HasShape, Narrows, join_of, raised_by}

-- Where an expression has a value on numbers that the intervals describe, the value is in its
-- interval; so where it has no interval it has no value.
abbrev pub EvaluationDescribes : Type 0
EvaluationDescribes =
    (slots : List Slot) (xs : List Bounds) (values : List ℤ) (e : Expr) (n : ℤ)
    → IsTrue (is_plain (length slots) e) → HoldsEach slots values → DescribesEach xs values
    → value_of e slots values ≡ Ok n → IsSomeAnd (interval_of slots xs e) (λ v. Describes v n)

-- a guard keeps each run at which the expression has the wanted truth
abbrev pub GuardKeeps : Type 0
GuardKeeps =
    (slots : List Slot) (s : StateValue) (values : List ℤ) (owners : List (Option ℕ)) (thread : ℕ) (e : Expr) (wanted : Bool) (n : ℤ)
    → IsTrue (is_plain (length slots) e) → DescribesState slots s values owners thread
    → value_of e slots values ≡ Ok n → not (is_zero n) ≡ wanted
    → DescribesState slots (guarded_by slots e wanted s) values owners thread

-- a guard only narrows the intervals, and keeps the locks
abbrev pub GuardNarrows : Type 0
GuardNarrows = (slots : List Slot) (s : StateValue) (e : Expr) (wanted : Bool) → Narrows s (guarded_by slots e wanted s)

-- a slot with a number stored in it is described by the slot with its interval
abbrev pub AssignmentDescribes : Type 0
AssignmentDescribes =
    (slots : List Slot) (xs : List Bounds) (locks : ℕ) (values : List ℤ) (owners : List (Option ℕ)) (thread : ℕ) (x : ℕ) (v : Bounds) (n : ℤ)
    → DescribesState slots (Reached xs locks) values owners thread → Describes v n
    → DescribesState slots (Reached (slice_set xs x (converted_to (slot_width slots x) v)) locks) (with_slot slots x n values) owners thread

-- what bounds a state describes what the state describes
abbrev pub OrderDescribes : Type 0
OrderDescribes =
    (slots : List Slot) (outer inner : StateValue) (values : List ℤ) (owners : List (Option ℕ)) (thread : ℕ)
    → CoversState outer inner → DescribesState slots inner values owners thread → DescribesState slots outer values owners thread

abbrev pub OrderIsTransitive : Type 0
OrderIsTransitive = (a b c : StateValue) → CoversState a b → CoversState b c → CoversState a c

-- a join and a raise bound both states, where both are of one shape
abbrev pub JoinBounds : Type 0
JoinBounds = (slots : List Slot) (a b : StateValue) → HasShape slots a → HasShape slots b → CoversState (join_of a b) a × CoversState (join_of a b) b

abbrev pub RaiseBounds : Type 0
RaiseBounds = (slots : List Slot) (marks : List ℤ) (a b : StateValue) → HasShape slots a → HasShape slots b → CoversState (raised_by marks a b) a × CoversState (raised_by marks a b) b

-- an interval's ends, each of which is that of the old one or a mark
abbrev pub Rests : List ℤ → Bounds → Bounds → Type 0
Rests marks old new = ((new.lo ≡ old.lo) ⊎ Contains marks new.lo) × ((new.hi ≡ old.hi) ⊎ Contains marks new.hi)

abbrev pub RestsEach : List ℤ → List Bounds → List Bounds → Type 0
RestsEach marks [] ys = ys ≡ []
RestsEach marks (x ∷ xs) [] = ⊥
RestsEach marks (x ∷ xs) (y ∷ ys) = Rests marks x y × RestsEach marks xs ys

-- the ends of each slot's width are marks
abbrev pub HasEndsOfEach : List ℤ → List Slot → Type 0
HasEndsOfEach marks [] = Unit {0}
HasEndsOfEach marks (slot ∷ slots) = (Contains marks (lowest slot.width) × Contains marks (greatest slot.width)) × HasEndsOfEach marks slots

-- an end that a raise moves stands on a threshold
abbrev pub RaiseRests : Type 0
RaiseRests =
    (slots : List Slot) (marks : List ℤ) (xs ys : List Bounds) (locks others : ℕ)
    → HasEndsOfEach marks slots → FitsEach slots xs → FitsEach slots ys
    → RestsEach marks xs (slots_of (raised_by marks (Reached xs locks) (Reached ys others)))
