-- Laws of the definitions.
use Rattle.std.specs.Prelude.{◌≡◌, ◌≢◌, ◌≤◌, ℕ, ℤ, true, List, [], ◌∷◌, ◌++◌, Option, None, Result, Ok, Err, slice_set}
use Rattle.gob_tree.specs.declared.expr.Expr.{Expr}
use Rattle.std.specs.List.{Contains}
use Rattle.gob_tree.specs.declared.unit.Slot.{Slot}
use Rattle.gob_tree.specs.declared.unit.Function.{Function}
use Rattle.gob_tree.specs.declared.unit.Unit.{Unit as TranslationUnit}
use Rattle.c_meaning.specs.declared.config.Choice.{Choice}
use Rattle.c_meaning.specs.declared.config.Stepped.TheVariants.{Moved}
use Rattle.c_meaning.specs.declared.demand.Demand.{Demand}
use Rattle.c_meaning.specs.declared.demand.Demand.TheVariants.{Fault}
use Rattle.c_meaning.specs.Demand.{demand_of}
use Rattle.c_meaning.specs.Config.{Config, with_thread}
use Rattle.c_meaning.specs.Tree.{Frame, MovesTo, tree_step, word_of, after_step}
use Rattle.c_meaning.specs.Run.{IsRun}
use Rattle.c_meaning.specs.Graph.{MarkedEdge, flow_of, graph_slots}
use Rattle.c_meaning.specs.Walk.{Moment, silent_from, settled_from}

-- an answer that no input would change: a value or a fault
abbrev pub IsFinal : {A : Type 0} → Result A Demand → Type 0
IsFinal (Ok v) = Unit {0}
IsFinal (Err demand) = demand ≡ Fault

-- where an expression has a value or faults, it does the same with more inputs behind, and leaves them
abbrev pub FinalStays : Type 0
FinalStays =
    (e : Expr) (slots : List Slot) (values ins more : List ℤ) → IsFinal (demand_of e slots values ins).0
    → demand_of e slots values (ins ++ more) ≡ ((demand_of e slots values ins).0, (demand_of e slots values ins).1 ++ more)

-- where an expression lacks an input, it has taken all that were there
abbrev pub MissingTakesAll : Type 0
MissingTakesAll =
    (e : Expr) (slots : List Slot) (values ins : List ℤ) (missing : Demand) → (demand_of e slots values ins).0 ≡ Err missing
    → missing ≢ Fault → (demand_of e slots values ins).1 ≡ []

-- what is the same but for the thread itself, and at most one thing that threads share
pub data ChangesAtMost (old : Config Frame) (t : ℕ) (new : Config Frame) : Type 0 where
  itself : (frames : List Frame) → new.globals ≡ old.globals → new.owners ≡ old.owners
      → new.threads ≡ with_thread old.threads t frames → ChangesAtMost old t new
  one_global : (frames : List Frame) → (g : ℕ) → (n : ℤ) → new.globals ≡ slice_set old.globals g n → new.owners ≡ old.owners
      → new.threads ≡ with_thread old.threads t frames → ChangesAtMost old t new
  one_owner : (frames : List Frame) → (m : ℕ) → (owner : Option ℕ) → new.globals ≡ old.globals
      → new.owners ≡ slice_set old.owners m owner
      → new.threads ≡ with_thread old.threads t frames → ChangesAtMost old t new
  one_thread_more : (frames : List Frame) → (frame : Frame) → new.globals ≡ old.globals → new.owners ≡ old.owners
      → new.threads ≡ with_thread old.threads t frames ++ (frame ∷ []) ∷ [] → ChangesAtMost old t new

-- a step that moves changes its own thread and at most one of these
abbrev pub StepsChangeLittle : Type 0
StepsChangeLittle =
    (unit : TranslationUnit) (c : Config Frame) (t : ℕ) (input : ℤ) (next : Config Frame)
    → tree_step unit c t input ≡ MovesTo next → ChangesAtMost c t next

-- a step that doesn't move changes nothing
abbrev pub OnlyMovesChange : Type 0
OnlyMovesChange =
    (unit : TranslationUnit) (c : Config Frame) (t : ℕ) (input : ℤ)
    → word_of (tree_step unit c t input) ≢ Moved → after_step c (tree_step unit c t input) ≡ c

-- a prefix of a run is a run
abbrev pub PrefixesAreRuns : Type 0
PrefixesAreRuns =
    (unit : TranslationUnit) (first later : List Choice) (last : Config Frame)
    → IsRun unit (first ++ later) last → (middle : Config Frame) × IsRun unit first middle

-- a path of one silent edge or more
pub data SilentPath (edges : List MarkedEdge) : ℕ → ℕ → Type 0 where
  last_edge : (d : MarkedEdge) → Contains edges d → d.silent ≡ true → SilentPath edges d.edge.from d.edge.to
  first_edge : (d : MarkedEdge) → (to : ℕ) → Contains edges d → d.silent ≡ true → SilentPath edges d.edge.to to
      → SilentPath edges d.edge.from to

-- the silent edges of a function form no circle
abbrev pub SilentEdgesEnd : Type 0
SilentEdgesEnd = (f : Function) (node : ℕ) → ¬ SilentPath (flow_of f).edges node node

-- no silent edge leads to the exit: each ends where the body starts or at a node after that
abbrev pub SilentEdgesStayInside : Type 0
SilentEdgesStayInside = (f : Function) (d : MarkedEdge) → Contains (flow_of f).edges d → d.silent ≡ true → 2 ≤ d.edge.to

-- where a thread has done silent edges while it could, no silent edge can be done
abbrev pub SilentEdgesRunOut : Type 0
SilentEdgesRunOut =
    (f : Function) (m : Moment)
    → silent_from (graph_slots f) (flow_of f).edges 0 (settled_from (graph_slots f) (flow_of f).edges m).1 ≡ None
