-- Steps of graphs: what a thread can take at its topmost node.
--
-- A reader should check: when each action can be done and what it does, what a call's start and
-- end do to the two frames, and when a thread has ended.
use Rattle.std.specs.Prelude.{ℕ, ℤ, Bool, true, false, not, if◌then◌else◌, List, [], ◌∷◌, Option, None, Some, Result, Ok, Err, slice_get, slice_index_or, slice_set, nat_eq}
use Rattle.std.specs.Option.{option_map, option_and_then}
use Rattle.gob_tree.specs.declared.unit.Slot.{Slot}
use Rattle.gob_tree.specs.declared.graph.Action.{Action}
use Rattle.gob_tree.specs.declared.graph.Action.TheVariants.{Assign, Read, Write, Nondet, Guard, Assert, Lock, Unlock, Create, Join, Call, Skip}
use Rattle.gob_tree.specs.declared.graph.Edge.{Edge}
use Rattle.gob_tree.specs.declared.graph.FuncGraph.{FuncGraph}
use Rattle.gob_tree.specs.declared.graph.Program.{Program}
use Rattle.c_meaning.specs.declared.demand.Demand.{Demand}
use Rattle.c_meaning.specs.Demand.{conversion, value_at, with_slot, is_zero, value_of, values_of}
use Rattle.c_meaning.specs.Config.{Config, thread_at, Effect, Keeps, SetsGlobal, SetsOwner, Starts, after_effect, next_thread, owner_at, owner_after_lock, owner_after_unlock, has_ended_by, slots_in, global_at, global_width, first_values, unset_vars, first_config}

-- The function, the node, the values of all slots, the thread that each thread variable has, if
-- any, and the number of the call edge that the frame waits at, if it does.
pub record Frame : Type 0 where
  pub func : ℕ
  pub node : ℕ
  pub slots : List ℤ
  pub vars : List (Option ℕ)
  pub waits : Option ℕ

abbrev pub func_slots : Program → ℕ → List Slot
func_slots program = slots_in (λ func. func.slots) program.funcs

-- an edge of a function by its number
abbrev pub edge_at : Program → ℕ → ℕ → Option Edge
edge_at program f e = option_and_then (λ func. slice_get func.edges e) (slice_get program.funcs f)

-- a new frame of a function: at its entry, with its parameters set and 0 in every other slot
abbrev pub frame_of : ℕ → List ℤ → FuncGraph → Frame
frame_of f args func = record {
  func = f;
  node = 0;
  slots = first_values func.slots args;
  vars = unset_vars func.threads;
  waits = None;
}

abbrev pub new_frame_or : ℕ → List ℤ → Option FuncGraph → Frame
new_frame_or f args None = record { func = f; node = 0; slots = []; vars = []; waits = None }
new_frame_or f args (Some func) = frame_of f args func

abbrev pub new_frame : Program → ℕ → List ℤ → Frame
new_frame program f args = new_frame_or f args (slice_get program.funcs f)

-- a thread has ended where its first frame, the last of the list, is at node 1
abbrev pub is_over : List Frame → Bool
is_over [] = false
is_over (frame ∷ []) = nat_eq frame.node 1
is_over (frame ∷ caller ∷ below) = is_over (caller ∷ below)

abbrev pub has_ended : Config Frame → ℕ → Bool
has_ended = has_ended_by is_over

-- ---- actions

-- goes on with a value, where there is one
abbrev pub with_value : {A B : Type 0} → Result A Demand → (A → Option B) → Option B
with_value (Ok v) go = go v
with_value (Err demand) go = None

abbrev pub same_truth : Bool → Bool → Bool
same_truth true b = b
same_truth false b = not b

-- The slots after an action that touches nothing else, where it can be done: a guard where its
-- expression has the wanted truth, an assert where its expression isn't 0.
abbrev pub local_slots : List Slot → Action → List ℤ → Option (List ℤ)
local_slots slots (Assign x e) values = with_value (value_of e slots values) (λ n. Some (with_slot slots x n values))
local_slots slots (Guard e wanted) values =
    with_value (value_of e slots values) (λ n. if same_truth wanted (not (is_zero n)) then Some values else None)
local_slots slots (Assert e) values = with_value (value_of e slots values) (λ n. if is_zero n then None else Some values)
local_slots slots Skip values = Some values
local_slots slots other values = None

-- where a step is made: by a thread of a configuration, with an input, in its topmost frame
pub record Site : Type 0 where
  pub program : Program
  pub config : Config Frame
  pub thread : ℕ
  pub input : ℤ
  pub frame : Frame
  pub below : List Frame

-- a frame after an action, but for its node, and what the action does beside
abbrev pub Acted : Type 0
Acted = Frame × Effect Frame

abbrev pub slots_effect : Site → List ℤ → Acted
slots_effect s slots = (record s.frame { slots = slots }, Keeps)

abbrev pub owner_effect : Site → ℕ → Option (Option ℕ) → Option Acted
owner_effect s m owner = option_map (λ new. (s.frame, SetsOwner m new)) owner

abbrev pub join_effect : Site → Option ℕ → Option Acted
join_effect s None = None
join_effect s (Some t) = if has_ended s.config t then Some (s.frame, Keeps) else None

-- what an action does, where it can be done; a call is no such action
abbrev pub action_effect : Site → List Slot → Action → Option Acted
action_effect s slots (Read x g) = Some (slots_effect s (with_slot slots x (global_at s.config g) s.frame.slots))
action_effect s slots (Write g e) =
    with_value (value_of e slots s.frame.slots) (λ n. Some (s.frame, SetsGlobal g (conversion (global_width s.program.globals g) n)))
action_effect s slots (Nondet x) = Some (slots_effect s (with_slot slots x s.input s.frame.slots))
action_effect s slots (Lock m) = owner_effect s m (owner_after_lock s.thread (owner_at s.config m))
action_effect s slots (Unlock m) = owner_effect s m (owner_after_unlock s.thread (owner_at s.config m))
action_effect s slots (Create var f) =
    Some (record s.frame { vars = slice_set s.frame.vars var (Some (next_thread s.config)) }, Starts (new_frame s.program f []))
action_effect s slots (Join var) = join_effect s (slice_index_or s.frame.vars var None)
action_effect s slots (Call d f args) = None
action_effect s slots local = option_map (slots_effect s) (local_slots slots local s.frame.slots)

-- ---- what a thread can take

-- a label of a walk: an edge that is done, a call edge that is entered, the return from a frame
pub data Label : Type 0 where
  Do : (edge : ℕ) → Label
  Enter : (edge : ℕ) → Label
  Leave : Label

abbrev pub Next : Type 0
Next = Option (Config Frame)

-- an edge that leaves the node is done: the frame goes to its end
abbrev pub frame_moved : Site → ℕ → Acted → Config Frame
frame_moved s to a = after_effect s.config s.thread (record a.0 { node = to } ∷ s.below) a.1

abbrev pub after_edge : Site → Edge → Next
after_edge s edge =
    if nat_eq edge.from s.frame.node
    then option_map (frame_moved s edge.to) (action_effect s (func_slots s.program s.frame.func) edge.act)
    else None

-- a call edge is entered: a new frame, and the caller waits
abbrev pub after_push : Site → ℕ → ℕ → List ℤ → Config Frame
after_push s e f args =
    after_effect s.config s.thread (new_frame s.program f args ∷ record s.frame { waits = Some e } ∷ s.below) Keeps

abbrev pub after_call : Site → ℕ → Action → Next
after_call s e (Call d f args) =
    with_value (values_of args (func_slots s.program s.frame.func) s.frame.slots) (λ ns. Some (after_push s e f ns))
after_call s e other = None

abbrev pub after_entry : Site → ℕ → Edge → Next
after_entry s e edge = if nat_eq edge.from s.frame.node then after_call s e edge.act else None

-- a frame that isn't the first returns: its caller goes to the end of its call edge, and the call's
-- destination gets slot 0
abbrev pub with_result : List Slot → Option ℕ → ℤ → List ℤ → List ℤ
with_result slots None n values = values
with_result slots (Some x) n values = with_slot slots x n values

abbrev pub after_return_to : Site → Frame → List Frame → ℕ → Action → Next
after_return_to s caller below to (Call d f args) =
    let slots = with_result (func_slots s.program caller.func) d (value_at s.frame.slots 0) caller.slots in
    Some (after_effect s.config s.thread (record caller { node = to; slots = slots; waits = None } ∷ below) Keeps)
after_return_to s caller below to other = None

abbrev pub after_leave : Site → List Frame → Next
after_leave s [] = None
after_leave s (caller ∷ below) =
    option_and_then (λ e. option_and_then (λ edge. after_return_to s caller below edge.to edge.act) (edge_at s.program caller.func e)) caller.waits

abbrev pub site_after : Site → Label → Next
site_after s (Do e) = option_and_then (after_edge s) (edge_at s.program s.frame.func e)
site_after s (Enter e) = option_and_then (after_entry s e) (edge_at s.program s.frame.func e)
site_after s Leave = if nat_eq s.frame.node 1 then after_leave s s.below else None

abbrev pub thread_after : Program → Config Frame → ℕ → ℤ → Label → List Frame → Next
thread_after program c t input label [] = None
thread_after program c t input label (frame ∷ below) =
    site_after (record { program = program; config = c; thread = t; input = input; frame = frame; below = below }) label

-- the configuration after a thread takes a label with an input; none where it can't
abbrev pub after_label : Program → Config Frame → ℕ → ℤ → Label → Next
after_label program c t input label = option_and_then (thread_after program c t input label) (thread_at c.threads t)

-- the first configuration: thread 1 at the entry of `main`
abbrev pub first_graph : Program → Config Frame
first_graph program = first_config program.globals program.mutexes (new_frame program program.main [])
