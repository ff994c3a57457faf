-- What contracts see of a state, its shape, what it describes, and the order and join of states.
--
-- A reader should check: what a state describes, that nothing is described by Bottom, and which end
-- or set is the wider one in the order.
use Rattle.std.specs.Prelude.{◌≡◌, ℕ, ℤ, pos, List, [], ◌∷◌, Bool, true, false, IsTrue, Option, Some, None, length, replicate, slice_index_or}
use Rattle.gob_tree.specs.Widths.{fits}
use Rattle.gob_tree.specs.declared.unit.Slot.{Slot}
use Rattle.interval_dom.specs.Bounds.{Bounds, between, Describes, Covers, hull}
use Rattle.interval_dom.specs.Marks.{widened}
use Rattle.lockset_dom.specs.Members.{Holds, Includes, no_locks, shared_members}
use Rattle.state_dom.specs.Operators.{full_of}

-- a point that no run reaches, which keeps the room of its slots; or an interval for each slot,
-- and the mutexes that are surely held
pub data StateValue : Type 0 where
  Bottom : (room : ℕ) → StateValue
  Reached : (slots : List Bounds) (locks : ℕ) → StateValue

-- the value of a state that is kept as a mark, slots and locks
abbrev pub state_value : Bool → List Bounds → ℕ → StateValue
state_value true slots locks = Reached slots locks
state_value false slots locks = Bottom (length slots)

-- the number of slots
abbrev pub room_of : StateValue → ℕ
room_of (Bottom room) = room
room_of (Reached slots locks) = length slots

abbrev pub slots_of : StateValue → List Bounds
slots_of (Bottom room) = []
slots_of (Reached slots locks) = slots

abbrev pub locks_of : StateValue → ℕ
locks_of (Bottom room) = no_locks
locks_of (Reached slots locks) = locks

abbrev pub is_reached : StateValue → Bool
is_reached (Bottom room) = false
is_reached (Reached slots locks) = true

-- each slot [0,0], and no lock
abbrev pub start_of : ℕ → StateValue
start_of room = Reached (replicate room (between (pos 0) (pos 0))) no_locks

-- ---- shape

-- each slot's interval lies in the range of the slot's width
abbrev pub FitsEach : List Slot → List Bounds → Type 0
FitsEach [] [] = Unit {0}
FitsEach [] (x ∷ xs) = ⊥
FitsEach (slot ∷ slots) [] = ⊥
FitsEach (slot ∷ slots) (x ∷ xs) = Covers (full_of slot.width) x × FitsEach slots xs

-- a state has room for the slots and, where it isn't Bottom, an interval in the width of each
abbrev pub HasShape : List Slot → StateValue → Type 0
HasShape slots (Bottom room) = room ≡ length slots
HasShape slots (Reached xs locks) = FitsEach slots xs

-- ---- what a state describes

-- each slot holds a number of its width
abbrev pub HoldsEach : List Slot → List ℤ → Type 0
HoldsEach [] [] = Unit {0}
HoldsEach [] (n ∷ ns) = ⊥
HoldsEach (slot ∷ slots) [] = ⊥
HoldsEach (slot ∷ slots) (n ∷ ns) = IsTrue (fits slot.width n) × HoldsEach slots ns

-- each number is in the interval of its place
abbrev pub DescribesEach : List Bounds → List ℤ → Type 0
DescribesEach [] [] = Unit {0}
DescribesEach [] (n ∷ ns) = ⊥
DescribesEach (x ∷ xs) [] = ⊥
DescribesEach (x ∷ xs) (n ∷ ns) = Describes x n × DescribesEach xs ns

-- each mutex of the set is one that the thread owns
abbrev pub OwnsEach : List (Option ℕ) → ℕ → ℕ → Type 0
OwnsEach owners thread locks = (m : ℕ) → Holds locks m → slice_index_or owners m None ≡ Some thread

-- The state isn't Bottom; each slot holds a number of its width that is in its interval; and the
-- thread owns each mutex of the lock set, among the owners of all mutexes.
abbrev pub DescribesState : List Slot → StateValue → List ℤ → List (Option ℕ) → ℕ → Type 0
DescribesState slots (Bottom room) values owners thread = ⊥
DescribesState slots (Reached xs locks) values owners thread =
    HoldsEach slots values × DescribesEach xs values × OwnsEach owners thread locks

-- ---- order

-- the interval of each place is inside that of the outer list
abbrev pub CoversEach : List Bounds → List Bounds → Type 0
CoversEach [] [] = Unit {0}
CoversEach [] (y ∷ ys) = ⊥
CoversEach (x ∷ xs) [] = ⊥
CoversEach (x ∷ xs) (y ∷ ys) = Covers x y × CoversEach xs ys

-- the outer state bounds the inner one: its intervals are at least as wide, and it holds no mutex
-- that the inner one doesn't hold
abbrev pub CoversState : StateValue → StateValue → Type 0
CoversState outer (Bottom room) = Unit {0}
CoversState (Bottom room) (Reached slots locks) = ⊥
CoversState (Reached slots locks) (Reached inner inner_locks) = CoversEach slots inner × Includes inner_locks locks

-- the new state is the old one with narrower intervals and the same locks, or Bottom with its room
abbrev pub Narrows : StateValue → StateValue → Type 0
Narrows (Bottom room) new = new ≡ Bottom room
Narrows (Reached xs locks) (Bottom room) = room ≡ length xs
Narrows (Reached xs locks) (Reached ys others) = CoversEach xs ys × (others ≡ locks)

-- an operation on two intervals, place by place
abbrev pub on_each : (Bounds → Bounds → Bounds) → List Bounds → List Bounds → List Bounds
on_each f [] ys = []
on_each f (x ∷ xs) [] = []
on_each f (x ∷ xs) (y ∷ ys) = f x y ∷ on_each f xs ys

-- the least state that bounds both
abbrev pub join_of : StateValue → StateValue → StateValue
join_of (Bottom room) b = b
join_of (Reached slots locks) (Bottom room) = Reached slots locks
join_of (Reached slots locks) (Reached others other_locks) = Reached (on_each hull slots others) (shared_members locks other_locks)

-- the old state raised by a new one: an end that moves goes on to a threshold
abbrev pub raised_by : List ℤ → StateValue → StateValue → StateValue
raised_by marks (Bottom room) new = new
raised_by marks (Reached slots locks) (Bottom room) = Reached slots locks
raised_by marks (Reached slots locks) (Reached others other_locks) = Reached (on_each (λ x y. widened x y marks) slots others) (shared_members locks other_locks)
