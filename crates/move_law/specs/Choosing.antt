-- What a choice does in the graphs of a unit, by the edge that is taken.
--
-- A reader should check: where the choice leads in the end, and that nothing else is asked than that
-- an edge which isn't silent leaves the node and can be taken.
use Rattle.std.specs.Prelude.{◌≡◌, ◌≢◌, ℕ, ℤ, false, List, [], ◌∷◌, Option, None, Some, Ok, slice_get, slice_set}
use Rattle.gob_tree.specs.declared.expr.Expr.{Expr}
use Rattle.gob_tree.specs.declared.graph.Action.{Action}
use Rattle.gob_tree.specs.declared.graph.Action.TheVariants.{Call, Create}
use Rattle.gob_tree.specs.declared.unit.Function.{Function}
use Rattle.gob_tree.specs.declared.unit.Unit.{Unit as TranslationUnit}
use Rattle.c_meaning.specs.Config.{Config, Effect, Keeps, SetsGlobal, SetsOwner, Starts, after_effect, next_thread, thread_at}
use Rattle.c_meaning.specs.Demand.{value_at, values_of}
use Rattle.c_meaning.specs.Graph.{marked_of, program_of}
use Rattle.c_meaning.specs.GraphStep.{Acted, Frame, Site, action_effect, edge_at, func_slots, new_frame, with_result}
use Rattle.c_meaning.specs.Walk.{Walked, after_choice, return_labels}
use Rattle.graph_law.specs.Laying.{HasEdge}
use Rattle.graph_law.specs.Settling.{settled_frame}

-- in a walk a thread has these frames, the topmost one of this function
pub record IsAt (unit : TranslationUnit) (w : Walked) (t : ℕ) (g : Frame) (gs : List Frame) (f : Function) : Type 0 where
  pub frames : thread_at w.config.threads t ≡ Some (g ∷ gs)
  pub func : slice_get unit.funcs g.func ≡ Some f

abbrev pub site_of : TranslationUnit → Walked → ℕ → ℤ → Frame → List Frame → Site
site_of unit w t input g gs = record { program = program_of unit; config = w.config; thread = t; input = input; frame = g; below = gs }

-- a frame after the silent edges that it does while one can be done
abbrev pub settled_top : TranslationUnit → Frame → Frame
settled_top unit g = record g { node = (settled_frame (marked_of unit) g).1.node; slots = (settled_frame (marked_of unit) g).1.slots }

-- a choice of the thread is made in the graphs, and leads to this configuration
abbrev pub Chosen : TranslationUnit → Walked → ℕ → ℤ → Config Frame → Type 0
Chosen unit w t input c = (next : Walked) × (after_choice (marked_of unit) (record { thread = t; input = input }) w ≡ Some next) × (next.config ≡ c)

-- an effect that starts no thread
abbrev pub StartsNone : Effect Frame → Type 0
StartsNone Keeps = Unit {0}
StartsNone (SetsGlobal g n) = Unit {0}
StartsNone (SetsOwner m owner) = Unit {0}
StartsNone (Starts frame) = ⊥

-- an edge that can be done is done, where it doesn't lead a callee to its exit
abbrev pub EdgesAreDone : Type 0
EdgesAreDone =
    (unit : TranslationUnit) (w : Walked) (t : ℕ) (input : ℤ) (g : Frame) (gs : List Frame) (f : Function) (act : Action) (to : ℕ) (acted : Acted)
    → IsAt unit w t g gs f → HasEdge f false g.node act to
    → action_effect (site_of unit w t input g gs) (func_slots (program_of unit) g.func) act ≡ Some acted → StartsNone acted.1
    → return_labels (record acted.0 { node = to } ∷ gs) ≡ []
    → Chosen unit w t input (after_effect w.config t (settled_top unit (record acted.0 { node = to }) ∷ gs) acted.1)

-- a call is entered, where its arguments have values: the caller waits at the call's edge
abbrev pub CallsAreEntered : Type 0
CallsAreEntered =
    (unit : TranslationUnit) (w : Walked) (t : ℕ) (input : ℤ) (g : Frame) (gs : List Frame) (f : Function) (d : Option ℕ) (callee : ℕ) (args : List Expr) (to : ℕ) (ns : List ℤ)
    → IsAt unit w t g gs f → HasEdge f false g.node (Call d callee args) to → values_of args (func_slots (program_of unit) g.func) g.slots ≡ Ok ns
    → (place : ℕ) × (edge_at (program_of unit) g.func place ≡ Some (record { from = g.node; act = Call d callee args; to = to }))
    × Chosen unit w t input
    (after_effect w.config t (settled_top unit (new_frame (program_of unit) callee ns) ∷ record g { waits = Some place } ∷ gs) Keeps)

-- an edge to the exit of a callee is done, and its caller goes on behind the call with its result
abbrev pub ReturnsAreMade : Type 0
ReturnsAreMade =
    (unit : TranslationUnit) (w : Walked) (t : ℕ) (input : ℤ) (g caller : Frame) (below : List Frame) (f : Function) (act : Action) (slots : List ℤ)
    (place from : ℕ) (d : Option ℕ) (callee : ℕ) (args : List Expr) (to : ℕ)
    → IsAt unit w t g (caller ∷ below) f → HasEdge f false g.node act 1
    → action_effect (site_of unit w t input g (caller ∷ below)) (func_slots (program_of unit) g.func) act ≡ Some (record g { slots = slots }, Keeps)
    → caller.waits ≡ Some place → edge_at (program_of unit) caller.func place ≡ Some (record { from = from; act = Call d callee args; to = to })
    → Chosen unit w t input
    (after_effect w.config t
    (settled_top unit (record caller { node = to; slots = with_result (func_slots (program_of unit) caller.func) d (value_at slots 0) caller.slots; waits = None }) ∷ below) Keeps)

-- a thread is started, and has done its silent edges
abbrev pub ThreadsAreStarted : Type 0
ThreadsAreStarted =
    (unit : TranslationUnit) (w : Walked) (t : ℕ) (input : ℤ) (g : Frame) (gs : List Frame) (f : Function) (var started to : ℕ)
    → IsAt unit w t g gs f → HasEdge f false g.node (Create var started) to → to ≢ 1
    → Chosen unit w t input
    (after_effect w.config t
    (settled_top unit (record g { node = to; vars = slice_set g.vars var (Some (next_thread w.config)) }) ∷ gs)
    (Starts (settled_top unit (new_frame (program_of unit) started []))))
