-- States that keep the shape of a function's slots.
use Rattle.std.proofs.Common.{◌≡◌, ℕ, zero, suc, ℤ, List, [], ◌∷◌, ◌++◌, Option, None, Some, refl, sym, ap, arith, true, true≢false}
use Rattle.std.specs.Prelude.{length, slice_set, if◌then◌else◌}
use Rattle.std.specs.List.{flat_map}
use Rattle.std.proofs.lemmas.List.Elements.{Contains-append_left, Contains-append_right}
use Rattle.gob_tree.specs.Widths.{lowest, greatest}
use Rattle.gob_tree.specs.declared.expr.Width.TheVariants.{W32 as Int, W64 as Long}
use Rattle.gob_tree.specs.declared.graph.Program.{Program}
use Rattle.gob_tree.specs.declared.unit.Slot.{Slot}
use Rattle.interval_dom.specs.Bounds.{Bounds, Covers, hull}
use Rattle.interval_dom.specs.Marks.{widened}
use Rattle.interval_dom.specs.Ranges.{full}
use Rattle.interval_dom.specs.declared.width.Width.{Width}
use Rattle.interval_dom.specs.declared.width.Width.TheVariants.{W32, W64}
use Rattle.interval_dom.proofs.Within.{HasEnds, Covers-wide, hull-within, widened-within, widened-bounds}
use Rattle.lockset_dom.specs.Members.{no_locks}
use Rattle.lockset_dom.proofs.Membership.{Holds-no_locks, Holds-shared_members}
use Rattle.c_meaning.specs.Demand.{slot_width}
use Rattle.state_dom.specs.Operators.{interval_width_of}
use Rattle.state_dom.specs.StateValue.{StateValue, Bottom, Reached, room_of, slots_of, is_reached, locks_of, CoversEach, CoversState, on_each, join_of, raised_by, FitsEach, HasShape}
use Rattle.state_dom.specs.ThresholdValues.{thresholds_of, neighbours, numbers_of_program, widest, has_wide, ends_of_type}
use Rattle.state_dom.proofs.Bounding.{CoversState-refl}
use Rattle.constraint_sys.specs.declared.unknown.Key.{Key}
use Rattle.constraint_sys.specs.declared.unknown.Unknown.TheVariants.{Point}
use Rattle.constraint_sys.specs.declared.value.Value.{Value}
use Rattle.constraint_sys.specs.declared.value.Value.TheVariants.{State, Number}
use Rattle.constraint_sys.specs.Sound.{IsMutexSet, IsShaped}
use Rattle.constraint_sys.specs.Table.{TableValue, value_at, slots_at, state_at, shown, shown_state}

pub length-fitted : (slots : List Slot) (xs : List Bounds) → FitsEach slots xs → length xs ≡ length slots
length-fitted [] [] each = refl
length-fitted [] (x ∷ xs) each = absurd each
length-fitted (slot ∷ slots) [] each = absurd each
length-fitted (slot ∷ slots) (x ∷ xs) each = ap suc (length-fitted slots xs each.1)

-- a shaped state has room for the slots
pub room_of-shaped : (slots : List Slot) (s : StateValue) → HasShape slots s → room_of s ≡ length slots
room_of-shaped slots (Bottom room) shaped = shaped
room_of-shaped slots (Reached xs locks) shaped = length-fitted slots xs shaped

pub room_of-reached : (slots : List Slot) (s : StateValue) → is_reached s ≡ true → FitsEach slots (slots_of s) → room_of s ≡ length slots
room_of-reached slots (Bottom room) reached fits = absurd (true≢false (sym reached))
room_of-reached slots (Reached xs locks) reached fits = length-fitted slots xs fits

-- an interval that fits its slot may be set there
pub FitsEach-set : (slots : List Slot) (xs : List Bounds) (i : ℕ) (v : Bounds) → FitsEach slots xs → Covers (full (interval_width_of (slot_width slots i))) v → FitsEach slots (slice_set xs i v)
FitsEach-set [] [] i v each fits = tt
FitsEach-set [] (x ∷ xs) i v each fits = absurd each
FitsEach-set (slot ∷ slots) [] i v each fits = absurd each
FitsEach-set (slot ∷ slots) (x ∷ xs) zero v each fits = (fits, each.1)
FitsEach-set (slot ∷ slots) (x ∷ xs) (suc i) v each fits = (each.0, FitsEach-set slots xs i v each.1 fits)

-- an operation that stays within each width
abbrev pub StaysWithin : (Bounds → Bounds → Bounds) → Type 0
StaysWithin f = (w : Width) (x y : Bounds) → Covers (full w) x → Covers (full w) y → Covers (full w) (f x y)

pub FitsEach-on_each : (f : Bounds → Bounds → Bounds) → StaysWithin f → (slots : List Slot) (xs ys : List Bounds) → FitsEach slots xs → FitsEach slots ys → FitsEach slots (on_each f xs ys)
FitsEach-on_each f stays [] [] ys left right = tt
FitsEach-on_each f stays [] (x ∷ xs) ys left right = absurd left
FitsEach-on_each f stays (slot ∷ slots) [] ys left right = absurd left
FitsEach-on_each f stays (slot ∷ slots) (x ∷ xs) [] left right = absurd right
FitsEach-on_each f stays (slot ∷ slots) (x ∷ xs) (y ∷ ys) left right =
    (stays (interval_width_of slot.width) x y left.0 right.0, FitsEach-on_each f stays slots xs ys left.1 right.1)

-- the ends of each width are marks
abbrev pub HasAllEnds : List ℤ → Type 0
HasAllEnds marks = (w : Width) → HasEnds marks w

pub HasAllEnds-thresholds : (p : Program) → HasAllEnds (thresholds_of p)
HasAllEnds-thresholds p W32 =
    let front = flat_map (neighbours (widest p)) (numbers_of_program p) in
    let back = if has_wide p then ends_of_type Long else [] in (
      Contains-append_left (front ++ ends_of_type Int) back (lowest Int) (Contains-append_right front (ends_of_type Int) (lowest Int) (0, omega arith, refl)),
      Contains-append_left (front ++ ends_of_type Int) back (greatest Int) (Contains-append_right front (ends_of_type Int) (greatest Int) (1, omega arith, refl)),
    )
HasAllEnds-thresholds p W64 = tt

pub HasShape-join : (slots : List Slot) (a b : StateValue) → HasShape slots a → HasShape slots b → HasShape slots (join_of a b)
HasShape-join slots (Bottom room) b left right = right
HasShape-join slots (Reached xs locks) (Bottom room) left right = left
HasShape-join slots (Reached xs locks) (Reached ys other_locks) left right = FitsEach-on_each hull hull-within slots xs ys left right

pub HasShape-raised : (marks : List ℤ) → HasAllEnds marks → (slots : List Slot) (a b : StateValue) → HasShape slots a → HasShape slots b → HasShape slots (raised_by marks a b)
HasShape-raised marks ends slots (Bottom room) b left right = right
HasShape-raised marks ends slots (Reached xs locks) (Bottom room) left right = left
HasShape-raised marks ends slots (Reached xs locks) (Reached ys other_locks) left right =
    FitsEach-on_each (λ x y. widened x y marks) (λ w x y old new. widened-within w marks x y (ends w) old new) slots xs ys left right

-- a raised state bounds the one that raised it
CoversEach-raised : (marks : List ℤ) (slots : List Slot) (xs ys : List Bounds) → FitsEach slots xs → FitsEach slots ys → CoversEach (on_each (λ x y. widened x y marks) xs ys) ys
CoversEach-raised marks [] [] [] left right = tt
CoversEach-raised marks [] [] (y ∷ ys) left right = absurd right
CoversEach-raised marks [] (x ∷ xs) ys left right = absurd left
CoversEach-raised marks (slot ∷ slots) [] ys left right = absurd left
CoversEach-raised marks (slot ∷ slots) (x ∷ xs) [] left right = absurd right
CoversEach-raised marks (slot ∷ slots) (x ∷ xs) (y ∷ ys) left right =
    (widened-bounds marks x y (Covers-wide (interval_width_of slot.width) y right.0), CoversEach-raised marks slots xs ys left.1 right.1)

pub CoversState-raised : (marks : List ℤ) (slots : List Slot) (a b : StateValue) → HasShape slots a → HasShape slots b → CoversState (raised_by marks a b) b
CoversState-raised marks slots (Bottom room) b left right = CoversState-refl b
CoversState-raised marks slots (Reached xs locks) (Bottom room) left right = tt
CoversState-raised marks slots (Reached xs locks) (Reached ys other_locks) left right =
    (CoversEach-raised marks slots xs ys left right, λ m held. ((Holds-shared_members locks other_locks m).0 held).1)

-- the state that an edge starts from
shown_state-shaped : (p : Program) (t : TableValue) (f : ℕ) (key : Key) (node : ℕ) (o : Option Value) → value_at t (Point f key node) ≡ o → IsShaped p t → HasShape (slots_at p f) (shown_state (length (slots_at p f)) (shown o))
shown_state-shaped p t f key node None at shaped = refl
shown_state-shaped p t f key node (Some (State (Bottom room))) at shaped = refl
shown_state-shaped p t f key node (Some (State (Reached xs locks))) at shaped = (shaped (Point f key node) (State (Reached xs locks)) at).shape
shown_state-shaped p t f key node (Some (Number n)) at shaped = absurd (shaped (Point f key node) (Number n) at)

pub HasShape-state_at : (p : Program) (t : TableValue) (f : ℕ) (key : Key) (node : ℕ) → IsShaped p t → HasShape (slots_at p f) (state_at p t f key node)
HasShape-state_at p t f key node shaped = shown_state-shaped p t f key node (value_at t (Point f key node)) refl shaped

pub no_mutex : (p : Program) → IsMutexSet p no_locks
no_mutex p m held = absurd (Holds-no_locks m held)

shown_state-mutexes : (p : Program) (t : TableValue) (f : ℕ) (key : Key) (node : ℕ) (o : Option Value) → value_at t (Point f key node) ≡ o → IsShaped p t → IsMutexSet p (locks_of (shown_state (length (slots_at p f)) (shown o)))
shown_state-mutexes p t f key node None at shaped = no_mutex p
shown_state-mutexes p t f key node (Some (State (Bottom room))) at shaped = no_mutex p
shown_state-mutexes p t f key node (Some (State (Reached xs locks))) at shaped = (shaped (Point f key node) (State (Reached xs locks)) at).mutexes
shown_state-mutexes p t f key node (Some (Number n)) at shaped = absurd (shaped (Point f key node) (Number n) at)

pub IsMutexSet-state_at : (p : Program) (t : TableValue) (f : ℕ) (key : Key) (node : ℕ) → IsShaped p t → IsMutexSet p (locks_of (state_at p t f key node))
IsMutexSet-state_at p t f key node shaped = shown_state-mutexes p t f key node (value_at t (Point f key node)) refl shaped
