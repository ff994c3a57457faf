-- New frames, and slots that get a value.
use Rattle.std.proofs.Common.{◌≡◌, refl, sym, ap, subst, ℕ, ℤ, pos, Bool, true, false, List, [], ◌∷◌, length, Option, None, Some, IsSomeAnd, IsTrue, arith}
use Rattle.std.specs.Prelude.{if◌then◌else◌, replicate, slice_get, slice_set}
use Rattle.std.proofs.lemmas.Int.{ints}
use Rattle.gob_tree.specs.Widths.{fits}
use Rattle.gob_tree.specs.declared.expr.Width.{Width}
use Rattle.gob_tree.specs.declared.expr.Width.TheVariants.{W32, W64}
use Rattle.gob_tree.specs.declared.graph.FuncGraph.{FuncGraph}
use Rattle.gob_tree.specs.declared.graph.Program.{Program}
use Rattle.gob_tree.specs.declared.unit.Slot.{Slot}
use Rattle.interval_dom.specs.Bounds.{Bounds, between, covers, Describes}
use Rattle.interval_dom.specs.Ranges.{full}
use Rattle.lockset_dom.specs.Members.{no_locks}
use Rattle.lockset_dom.proofs.Membership.{Holds-no_locks}
use Rattle.c_meaning.specs.Config.{first_values, param_values}
use Rattle.c_meaning.specs.Demand.{conversion, slot_width, with_slot}
use Rattle.c_meaning.specs.GraphStep.{new_frame_or}
use Rattle.state_dom.specs.Operators.{interval_width_of, converted_to}
use Rattle.state_dom.specs.StateValue.{Reached, HoldsEach, DescribesEach, OwnsEach, DescribesState, start_of}
use Rattle.state_dom.proofs.Assigning.{assignment_describes}
use Rattle.state_dom.proofs.Slots.{DescribesEach-set, HoldsEach-set}
use Rattle.state_dom.proofs.Values.{Describes-conversion, IsOfWidth-fits, fits-conversion}
use Rattle.constraint_sys.specs.Table.{slots_at, slots_of_function}
use Rattle.constraint_sys.specs.Transfer.{any_at, assigned, filled, frame_of}
use Rattle.action_law.specs.Described.{DescribesFrame}

-- ---- slots that get a value

-- a store of a number that is in the interval, where there is one
pub assigned_described : (slots : List Slot) (xs : List Bounds) (locks : ℕ) (values : List ℤ) (owners : List (Option ℕ)) (thread x : ℕ) (n : ℤ) (o : Option Bounds)
    → DescribesState slots (Reached xs locks) values owners thread → IsSomeAnd o (λ (v : Bounds). Describes v n)
    → DescribesState slots (assigned slots xs locks x o) (with_slot slots x n values) owners thread
assigned_described slots xs locks values owners thread x n None described within = absurd within
assigned_described slots xs locks values owners thread x n (Some v) described within = assignment_describes slots xs locks values owners thread x v n described within

-- the whole width, converted to the width or not
either_way : (b : Bool) (v : Bounds) (n : ℤ) → Describes v n → Describes (if b then v else v) n
either_way true v n within = within
either_way false v n within = within

-- a store of any number at all
pub any_described : (slots : List Slot) (xs : List Bounds) (locks : ℕ) (values : List ℤ) (owners : List (Option ℕ)) (thread x : ℕ) (n : ℤ)
    → DescribesState slots (Reached xs locks) values owners thread
    → DescribesState slots (Reached (slice_set xs x (converted_to (slot_width slots x) (any_at slots x))) locks) (with_slot slots x n values) owners thread
any_described slots xs locks values owners thread x n described =
    let w = slot_width slots x in
    let whole = full (interval_width_of w) in
    let within = either_way (covers whole whole) whole (conversion w n) (IsOfWidth-fits w (conversion w n) (fits-conversion w n)) in (
      HoldsEach-set slots values x (conversion w n) (fits-conversion w n) described.0,
      DescribesEach-set xs values x (converted_to w (any_at slots x)) (conversion w n) within described.1,
      described.2,
    )

-- ---- slots of a new frame

zero_fits : (w : Width) → IsTrue (fits w (pos 0))
zero_fits W32 = refl
zero_fits W64 = refl

zero_within : Describes (between (pos 0) (pos 0)) (pos 0)
zero_within = (omega (arith, ints), omega (arith, ints))

abbrev AreDescribed : List Slot → List Bounds → List ℤ → Type 0
AreDescribed slots xs values = HoldsEach slots values × DescribesEach xs values

filled_described : (slots : List Slot) (vs : List Bounds) (ns : List ℤ) → DescribesEach vs ns → AreDescribed slots (filled slots vs) (param_values slots ns)
filled_described [] vs ns each = (tt, tt)
filled_described (slot ∷ slots) [] [] each =
    let rest = filled_described slots [] [] tt in ((zero_fits slot.width, rest.0), (zero_within, rest.1))
filled_described (slot ∷ slots) [] (n ∷ ns) each = absurd each
filled_described (slot ∷ slots) (v ∷ vs) [] each = absurd each
filled_described (slot ∷ slots) (v ∷ vs) (n ∷ ns) each =
    let rest = filled_described slots vs ns each.1 in ((fits-conversion slot.width n, rest.0), (Describes-conversion slot.width v n each.0, rest.1))

frame_described : (slots : List Slot) (vs : List Bounds) (ns : List ℤ) → DescribesEach vs ns → AreDescribed slots (frame_of slots vs) (first_values slots ns)
frame_described [] vs ns each = (tt, tt)
frame_described (slot ∷ slots) vs ns each =
    let rest = filled_described slots vs ns each in ((zero_fits slot.width, rest.0), (zero_within, rest.1))

-- the slots of a thread's first frame
filled_zeros : (slots : List Slot) → filled slots [] ≡ replicate (length slots) (between (pos 0) (pos 0))
filled_zeros [] = refl
filled_zeros (slot ∷ slots) = ap (λ (xs : List Bounds). between (pos 0) (pos 0) ∷ xs) (filled_zeros slots)

frame_zeros : (slots : List Slot) → frame_of slots [] ≡ replicate (length slots) (between (pos 0) (pos 0))
frame_zeros [] = refl
frame_zeros (slot ∷ slots) = ap (λ (xs : List Bounds). between (pos 0) (pos 0) ∷ xs) (filled_zeros slots)

-- a new frame is described by the frame of intervals
pub new_described : (p : Program) (owners : List (Option ℕ)) (thread f locks : ℕ) (vs : List Bounds) (ns : List ℤ) (o : Option FuncGraph) → slice_get p.funcs f ≡ o → DescribesEach vs ns → OwnsEach owners thread locks
    → DescribesFrame p owners thread (Reached (frame_of (slots_at p f) vs) locks) (new_frame_or f ns o)
new_described p owners thread f locks vs ns None at each owns =
    subst (λ (slots : List Slot). DescribesState slots (Reached (frame_of slots vs) locks) [] owners thread) (sym (ap slots_of_function at)) (tt, tt, owns)
new_described p owners thread f locks vs ns (Some func) at each owns =
    let described = frame_described func.slots vs ns each in
    subst (λ (slots : List Slot). DescribesState slots (Reached (frame_of slots vs) locks) (first_values func.slots ns) owners thread) (sym (ap slots_of_function at)) (described.0, described.1, owns)

-- the first frame of a thread is described by the start state
pub start_described : (p : Program) (owners : List (Option ℕ)) (thread f : ℕ) (o : Option FuncGraph) → slice_get p.funcs f ≡ o
    → DescribesFrame p owners thread (start_of (length (slots_at p f))) (new_frame_or f [] o)
start_described p owners thread f o at =
    subst (λ (xs : List Bounds). DescribesFrame p owners thread (Reached xs no_locks) (new_frame_or f [] o)) (frame_zeros (slots_at p f))
    (new_described p owners thread f no_locks [] [] o at tt (λ m held. absurd (Holds-no_locks m held)))

pub new_func : (f : ℕ) (ns : List ℤ) (o : Option FuncGraph) → (new_frame_or f ns o).func ≡ f
new_func f ns None = refl
new_func f ns (Some func) = refl

pub new_node : (f : ℕ) (ns : List ℤ) (o : Option FuncGraph) → (new_frame_or f ns o).node ≡ 0
new_node f ns None = refl
new_node f ns (Some func) = refl
