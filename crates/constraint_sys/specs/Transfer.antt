-- What an action makes of a state: the state at the edge's end, what the edge contributes to other
-- unknowns, and the unknowns that it reads beside its start.
use Rattle.std.specs.Prelude.{ℕ, ℤ, pos, ◌+◌, Bool, true, ◌&&◌, nat_eq, nat_lt, List, [], ◌∷◌, Option, None, Some, length, slice_get, slice_set, if◌then◌else◌}
use Rattle.std.specs.Int.{bit_at}
use Rattle.std.specs.Option.{option_map}
use Rattle.std.specs.Ordering.{int_eq}
use Rattle.gob_tree.specs.declared.expr.Expr.{Expr}
use Rattle.gob_tree.specs.declared.expr.Width.{Width}
use Rattle.gob_tree.specs.declared.expr.Width.TheVariants.{W32}
use Rattle.gob_tree.specs.declared.graph.Action.{Action}
use Rattle.gob_tree.specs.declared.graph.Action.TheVariants.{Assign, Read, Write, Nondet, Guard, Assert, Lock, Unlock, Create, Join, Call, Skip}
use Rattle.gob_tree.specs.declared.graph.Program.{Program}
use Rattle.gob_tree.specs.declared.unit.GlobalDecl.{GlobalDecl}
use Rattle.gob_tree.specs.declared.unit.Slot.{Slot}
use Rattle.interval_dom.specs.Bounds.{Bounds, between}
use Rattle.interval_dom.specs.Ranges.{full}
use Rattle.lockset_dom.specs.Members.{with_member, without_member}
use Rattle.c_meaning.specs.Demand.{slot_width}
use Rattle.state_dom.specs.Evaluation.{guarded_by, interval_of}
use Rattle.state_dom.specs.Operators.{converted_to, interval_width_of}
use Rattle.state_dom.specs.StateValue.{StateValue, Bottom, Reached, start_of}
use Rattle.constraint_sys.specs.declared.unknown.ArgKey.{ArgKey}
use Rattle.constraint_sys.specs.declared.unknown.ArgKey.TheVariants.{Absent, Zero, One, Any}
use Rattle.constraint_sys.specs.declared.unknown.Key.{Key}
use Rattle.constraint_sys.specs.declared.unknown.Unknown.{Unknown}
use Rattle.constraint_sys.specs.declared.unknown.Unknown.TheVariants.{Point, Global}
use Rattle.constraint_sys.specs.declared.value.Outcome.{Outcome}
use Rattle.constraint_sys.specs.declared.value.Value.{Value}
use Rattle.constraint_sys.specs.declared.value.Value.TheVariants.{State, Number}
use Rattle.constraint_sys.specs.Table.{TableValue, value_at, shown, empty_key, slots_at, params_at, state_at}

-- a state alone
abbrev pub only : StateValue → Outcome
only s = record { value = s; effects = []; reads = [] }

-- a state with one contribution to another unknown
abbrev pub with_effect : StateValue → Unknown → Value → Outcome
with_effect s u v = record { value = s; effects = record { target = u; value = v } ∷ []; reads = [] }

-- ---- slots

-- the slots with the interval, converted to the slot's width
abbrev pub with_slot : List Slot → List Bounds → ℕ → Bounds → List Bounds
with_slot slots state x v = slice_set state x (converted_to (slot_width slots x) v)

-- a slot gets a value, or none
abbrev pub assigned : List Slot → List Bounds → ℕ → ℕ → Option Bounds → StateValue
assigned slots state locks x None = Bottom (length state)
assigned slots state locks x (Some v) = Reached (with_slot slots state x v) locks

-- a slot may have any number of its width
abbrev pub any_at : List Slot → ℕ → Bounds
any_at slots x = full (interval_width_of (slot_width slots x))

-- ---- globals

abbrev pub width_of_global : Option GlobalDecl → Width
width_of_global None = W32
width_of_global (Some decl) = decl.width

abbrev pub shown_number : Option Value → Option Bounds
shown_number None = None
shown_number (Some (State s)) = None
shown_number (Some (Number v)) = Some v

-- the interval of a global; one that isn't in the table has none
abbrev pub number_at : TableValue → ℕ → Option Bounds
number_at t g = shown_number (shown (value_at t (Global g)))

-- a slot gets the interval of a global
abbrev pub read_from : TableValue → List Slot → List Bounds → ℕ → ℕ → ℕ → Outcome
read_from t slots state locks x g =
    record { value = assigned slots state locks x (number_at t g); effects = []; reads = Global g ∷ [] }

-- a global gets a value, converted to its width, or none
abbrev pub written : Program → List Bounds → ℕ → ℕ → Option Bounds → Outcome
written p state locks g None = only (Bottom (length state))
written p state locks g (Some v) = with_effect (Reached state locks) (Global g) (Number (converted_to (width_of_global (slice_get p.globals g)) v))

-- ---- mutexes

-- whether a set has a member
abbrev pub holds : ℕ → ℕ → Bool
holds set m = nat_eq (bit_at set m) 1

-- a mutex that is surely held is never got again
abbrev pub locked : List Bounds → ℕ → ℕ → StateValue
locked state locks m = if holds locks m then Bottom (length state) else Reached state (with_member locks m)

-- ---- calls

-- the interval of each expression, in order; none where one has no value
abbrev pub with_values : Option Bounds → Option (List Bounds) → Option (List Bounds)
with_values None vs = None
with_values (Some v) vs = option_map (λ (rest : List Bounds). v ∷ rest) vs

abbrev pub values_of : List Slot → List Bounds → List Expr → Option (List Bounds)
values_of slots state [] = Some []
values_of slots state (e ∷ es) = with_values (interval_of slots state e) (values_of slots state es)

-- slots of a new frame: arguments, each converted to the width of its slot, then [0,0]
abbrev pub filled : List Slot → List Bounds → List Bounds
filled [] vs = []
filled (slot ∷ slots) [] = between (pos 0) (pos 0) ∷ filled slots []
filled (slot ∷ slots) (v ∷ vs) = converted_to slot.width v ∷ filled slots vs

-- all slots of a new frame: that of the returned value is [0,0]
abbrev pub frame_of : List Slot → List Bounds → List Bounds
frame_of [] vs = []
frame_of (slot ∷ slots) vs = between (pos 0) (pos 0) ∷ filled slots vs

abbrev pub is_number : ℤ → Bounds → Bool
is_number n v = int_eq v.lo n && int_eq v.hi n

-- what a context knows of an argument
abbrev pub arg_key : Option Bounds → ArgKey
arg_key None = Absent
arg_key (Some v) = if is_number (pos 0) v then Zero else (if is_number (pos 1) v then One else Any)

-- what it knows of parameter i, counted from 0, which stands in slot i + 1
abbrev pub param_key : ℕ → List Bounds → ℕ → ArgKey
param_key params frame i = if nat_lt i params then arg_key (slice_get frame (i + 1)) else Absent

-- the context of a call of a function with so many parameters: what the new frame has in the first
-- two, and the caller's locks
abbrev pub key_of : ℕ → List Bounds → ℕ → Key
key_of params frame locks = record { a = param_key params frame 0; b = param_key params frame 1; locks = locks }

-- the state after a call that ends in this one: its slot 0 is the value, its locks are held
abbrev pub returned : List Slot → List Bounds → Option ℕ → StateValue → StateValue
returned slots state d (Bottom room) = Bottom (length state)
returned slots state None (Reached exit locks) = Reached state locks
returned slots state (Some x) (Reached exit locks) = assigned slots state locks x (slice_get exit 0)

-- a call of function f with these arguments, or with an argument that has no value
abbrev pub called : Program → TableValue → List Slot → List Bounds → ℕ → Option ℕ → ℕ → Option (List Bounds) → Outcome
called p t slots state locks d f None = only (Bottom (length state))
called p t slots state locks d f (Some args) =
    let frame = frame_of (slots_at p f) args in
    let key = key_of (params_at p f) frame locks in
    record {
      value = returned slots state d (state_at p t f key 1);
      effects = record { target = Point f key 0; value = State (Reached frame locks) } ∷ [];
      reads = Point f key 1 ∷ [];
    }

-- ---- actions

-- an action done in a state that isn't Bottom
abbrev pub outcome_in : Program → TableValue → List Slot → List Bounds → ℕ → Action → Outcome
outcome_in p t slots state locks (Assign x e) = only (assigned slots state locks x (interval_of slots state e))
outcome_in p t slots state locks (Read x g) = read_from t slots state locks x g
outcome_in p t slots state locks (Write g e) = written p state locks g (interval_of slots state e)
outcome_in p t slots state locks (Nondet x) = only (Reached (with_slot slots state x (any_at slots x)) locks)
outcome_in p t slots state locks (Guard e wanted) = only (guarded_by slots e wanted (Reached state locks))
outcome_in p t slots state locks (Assert e) = only (guarded_by slots e true (Reached state locks))
outcome_in p t slots state locks (Lock m) = only (locked state locks m)
outcome_in p t slots state locks (Unlock m) = only (Reached state (without_member locks m))
outcome_in p t slots state locks (Create x f) = with_effect (Reached state locks) (Point f empty_key 0) (State (start_of (length (slots_at p f))))
outcome_in p t slots state locks (Join x) = only (Reached state locks)
outcome_in p t slots state locks (Call d f args) = called p t slots state locks d f (values_of slots state args)
outcome_in p t slots state locks Skip = only (Reached state locks)

-- The transfer of an action of function f, from the state at its start. From Bottom it is Bottom,
-- without effects or reads.
abbrev pub transfer : Program → TableValue → ℕ → Action → StateValue → Outcome
transfer p t f act (Bottom room) = only (Bottom room)
transfer p t f act (Reached state locks) = outcome_in p t (slots_at p f) state locks act
