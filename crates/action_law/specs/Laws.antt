-- The law of one action: where what states and a table know of a moment is true, what the transfer
-- makes of it is true of the moment after one action.
use Rattle.std.specs.Prelude.{◌≡◌, ◌≢◌, ℕ, ℤ, List, [], ◌∷◌, Option, Some, Ok, All}
use Rattle.gob_tree.specs.Formed.{IsFormed}
use Rattle.gob_tree.specs.declared.expr.Expr.{Expr}
use Rattle.gob_tree.specs.declared.graph.Action.TheVariants.{Call}
use Rattle.gob_tree.specs.declared.graph.Edge.{Edge}
use Rattle.gob_tree.specs.declared.graph.Program.{Program}
use Rattle.gob_tree.specs.declared.unit.Slot.{Slot}
use Rattle.c_meaning.specs.Config.{Config, thread_at, after_effect, next_thread}
use Rattle.c_meaning.specs.Demand.{value_at, values_of}
use Rattle.c_meaning.specs.GraphStep.{Frame, Site, Acted, Label, edge_at, func_slots, new_frame, with_result, action_effect, after_label}
use Rattle.state_dom.specs.StateValue.{StateValue, DescribesState}
use Rattle.constraint_sys.specs.declared.unknown.Key.{Key}
use Rattle.constraint_sys.specs.declared.unknown.Unknown.TheVariants.{Point}
use Rattle.constraint_sys.specs.declared.value.Effect.{Effect as Given}
use Rattle.constraint_sys.specs.declared.value.Value.TheVariants.{State}
use Rattle.constraint_sys.specs.PostSolution.{BoundsAt}
use Rattle.constraint_sys.specs.Table.{TableValue, slots_at, state_at}
use Rattle.constraint_sys.specs.Transfer.{transfer}
use Rattle.action_law.specs.Described.{DescribesEffect, DescribesFrame, DescribesGlobals, DescribesSlots, IsDescribed}

-- ---- an edge that isn't a call

-- An edge of a formed program that is done at a described moment: what it does by its action.
pub record IsDone (t : TableValue) (s : Site) (state : StateValue) (edge : Edge) (done : Acted) : Type 0 where
  pub formed : IsFormed s.program
  pub number : ℕ
  pub edge_there : edge_at s.program s.frame.func number ≡ Some edge
  pub before : IsDescribed t s state
  pub acts : action_effect s (func_slots s.program s.frame.func) edge.act ≡ Some done

-- The transfer's state describes the frame after the action, among the owners after it.
abbrev pub EdgesLeadToStates : Type 0
EdgesLeadToStates =
    (t : TableValue) (s : Site) (state : StateValue) (edge : Edge) (done : Acted) (frames : List Frame) → IsDone t s state edge done
    → DescribesFrame s.program (after_effect s.config s.thread frames done.1).owners s.thread (transfer s.program t s.frame.func edge.act state).value done.0

-- The transfer's effects describe what the action does beside: a global's new value, or the first
-- frame of the new thread.
abbrev pub EdgesHaveEffects : Type 0
EdgesHaveEffects =
    (t : TableValue) (s : Site) (state : StateValue) (edge : Edge) (done : Acted) (frames : List Frame) → IsDone t s state edge done
    → DescribesEffect s.program (after_effect s.config s.thread frames done.1).owners (next_thread s.config) done.1 (transfer s.program t s.frame.func edge.act state).effects

-- Where the table bounds these effects, each global is in its interval after the action too.
abbrev pub EdgesKeepGlobals : Type 0
EdgesKeepGlobals =
    (t : TableValue) (s : Site) (state : StateValue) (edge : Edge) (done : Acted) (frames : List Frame) → IsDone t s state edge done
    → All (λ (e : Given). BoundsAt t e.target e.value) (transfer s.program t s.frame.func edge.act state).effects
    → DescribesGlobals s.program t (after_effect s.config s.thread frames done.1)

-- ---- the start of a call

-- A call whose arguments have values in a described frame. Its one effect is on the callee's start
-- in the context in whose exit its transfer looks, and describes the new frame of these values.
abbrev pub CallsEnter : Type 0
CallsEnter =
    (p : Program) (t : TableValue) (owners : List (Option ℕ)) (thread : ℕ) (frame : Frame) (state : StateValue) (number : ℕ) (edge : Edge) (d : Option ℕ) (f : ℕ) (args : List Expr) (values : List ℤ)
    → IsFormed p → edge_at p frame.func number ≡ Some edge → edge.act ≡ Call d f args
    → DescribesFrame p owners thread state frame → values_of args (func_slots p frame.func) frame.slots ≡ Ok values
    → (key : Key) × (entry : StateValue)
    × ((transfer p t frame.func edge.act state).effects ≡ record { target = Point f key 0; value = State entry } ∷ [])
    × ((transfer p t frame.func edge.act state).reads ≡ Point f key 1 ∷ [])
    × DescribesFrame p owners thread entry (new_frame p f values)

-- ---- the return

-- A state describes the caller's slots, and the callee's exit, in the context in which the call's
-- transfer looks there, describes the slots of the frame that returns and the thread's mutexes. Then
-- the transfer's state describes the caller's slots with the result, and the thread's mutexes.
abbrev pub ReturnsLeadToStates : Type 0
ReturnsLeadToStates =
    (p : Program) (t : TableValue) (owners : List (Option ℕ)) (thread : ℕ) (caller : Frame) (state : StateValue) (number : ℕ) (edge : Edge) (d : Option ℕ) (f : ℕ) (args : List Expr) (key : Key) (values : List ℤ)
    → IsFormed p → edge_at p caller.func number ≡ Some edge → edge.act ≡ Call d f args
    → DescribesSlots (slots_at p caller.func) state caller.slots
    → (transfer p t caller.func edge.act state).reads ≡ Point f key 1 ∷ []
    → DescribesState (slots_at p f) (state_at p t f key 1) values owners thread
    → DescribesState (slots_at p caller.func) (transfer p t caller.func edge.act state).value (with_result (func_slots p caller.func) d (value_at values 0) caller.slots) owners thread

-- ---- the other threads

-- Whatever a thread takes, each other thread has the frames that it had.
abbrev pub OthersKeepFrames : Type 0
OthersKeepFrames =
    (p : Program) (c next : Config Frame) (thread : ℕ) (input : ℤ) (label : Label) (other : ℕ) (frames : List Frame)
    → after_label p c thread input label ≡ Some next → other ≢ thread
    → thread_at c.threads other ≡ Some frames → thread_at next.threads other ≡ Some frames

-- A state that describes slots and mutexes of another thread describes them afterwards.
abbrev pub OthersStayDescribed : Type 0
OthersStayDescribed =
    (p : Program) (c next : Config Frame) (thread : ℕ) (input : ℤ) (label : Label) (other : ℕ) (slots : List Slot) (state : StateValue) (values : List ℤ)
    → after_label p c thread input label ≡ Some next → other ≢ thread
    → DescribesState slots state values c.owners other → DescribesState slots state values next.owners other
