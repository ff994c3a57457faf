-- The invariant of a run: more than that graphs stand for trees.
--
-- A reader should check: that a frame's whole list to do lies in its function's graph, that the
-- graph's node and slots are reached by just the inputs that the tree has, and how each caller goes
-- on behind the edge at which it waits.
use Rattle.std.specs.Prelude.{◌≡◌, ◌≤◌, ℕ, ℤ, pos, false, List, [], ◌∷◌, length, take, Option, None, Some, Ok, Err, slice_get}
use Rattle.gob_tree.specs.declared.expr.Expr.{Expr}
use Rattle.gob_tree.specs.declared.graph.Action.TheVariants.{Call}
use Rattle.gob_tree.specs.declared.unit.Function.{Function}
use Rattle.gob_tree.specs.declared.unit.Unit.{Unit as TranslationUnit}
use Rattle.c_meaning.specs.declared.demand.Demand.{Demand}
use Rattle.c_meaning.specs.Config.{Config}
use Rattle.c_meaning.specs.Demand.{slot_width, value_at}
use Rattle.c_meaning.specs.Graph.{flow_of, graph_slots, program_of}
use Rattle.c_meaning.specs.GraphStep as Graph
use Rattle.c_meaning.specs.GraphStep.{edge_at}
use Rattle.c_meaning.specs.Tree as Tree
use Rattle.c_meaning.specs.Tree.{front_demand, front_exprs, rest_of}
use Rattle.c_meaning.specs.Walk.{moment_along}
use Rattle.graph_law.specs.Fitting.{FitEach}
use Rattle.graph_law.specs.Laying.{HasEdge}
use Rattle.graph_law.specs.Lying.{Lies}
use Rattle.piece_law.specs.Pieces.{FrontStays}

-- One frame: what is to do lies from a node behind the exit, with values whose named slots are the
-- tree's; the inputs lead from there to the graph's node and slots, whose named slots are the same.
-- A front without expressions has no inputs, and slot 0 is 0 until the return.
pub record FrameTogether (unit : TranslationUnit) (f : Function) (t : Tree.Frame) (g : Graph.Frame) : Type 0 where
  pub there : slice_get unit.funcs t.func ≡ Some f
  pub func : t.func ≡ g.func
  pub vars : t.vars ≡ g.vars
  pub begin : ℕ
  pub values : List ℤ
  pub lies : Lies f t.todo begin
  pub inside : 2 ≤ begin
  pub front : FrontStays t.todo
  pub room : length values ≡ length (graph_slots f)
  pub named : take (length f.slots) values ≡ t.slots
  pub along :
      moment_along (graph_slots f) (flow_of f).edges t.ins (record { node = begin; slots = values })
      ≡ Some (record { node = g.node; slots = g.slots })
  pub kept : take (length f.slots) g.slots ≡ t.slots
  pub idle : front_exprs t.todo ≡ [] → t.ins ≡ []
  pub unset : value_at t.slots 0 ≡ pos 0

-- behind a call that stands alone, what comes after it lies at the end of its edge
pub record GoesAlone (unit : TranslationUnit) (f : Function) (t : Tree.Frame) (g : Graph.Frame) (to : ℕ) : Type 0 where
  pub args : List ℤ
  pub demand : front_demand unit t ≡ Ok args
  pub room : length g.slots ≡ length (graph_slots f)
  pub lies : Lies f (rest_of t.todo) to
  pub inside : 2 ≤ to

-- behind a call whose result is an input, it goes to a temporary of the width of the result
pub record GetsInput (unit : TranslationUnit) (f : Function) (t : Tree.Frame) (callee x to : ℕ) : Type 0 where
  pub missing : Demand
  pub demand : front_demand unit t ≡ Err missing
  pub behind : length f.slots ≤ x
  pub inside : 2 ≤ to
  pub width : slot_width (graph_slots f) x ≡ slot_width (Tree.func_slots unit callee) 0

abbrev pub GoesOn : TranslationUnit → Function → Tree.Frame → Graph.Frame → ℕ → ℕ → Option ℕ → Type 0
GoesOn unit f t g callee to None = GoesAlone unit f t g to
GoesOn unit f t g callee to (Some x) = GetsInput unit f t callee x to

-- a frame that isn't the topmost waits at a call edge of the function above it, and goes on behind it
pub record CallerWaits (unit : TranslationUnit) (f : Function) (t : Tree.Frame) (g : Graph.Frame) (callee : ℕ) : Type 0 where
  pub place : ℕ
  pub waits : g.waits ≡ Some place
  pub destination : Option ℕ
  pub args : List Expr
  pub to : ℕ
  pub call : edge_at (program_of unit) g.func place ≡ Some (record { from = g.node; act = Call destination callee args; to = to })
  pub edge : HasEdge f false g.node (Call destination callee args) to
  pub goes_on : GoesOn unit f t g callee to destination

abbrev pub FramesBelow : TranslationUnit → ℕ → List Tree.Frame → List Graph.Frame → Type 0
FramesBelow unit callee [] [] = Unit {0}
FramesBelow unit callee [] (g ∷ gs) = ⊥
FramesBelow unit callee (t ∷ ts) [] = ⊥
FramesBelow unit callee (t ∷ ts) (g ∷ gs) = (f : Function) × FrameTogether unit f t g × CallerWaits unit f t g callee × FramesBelow unit t.func ts gs

-- one thread; an ended one is at node 1 of its first function
abbrev pub ThreadTogether : TranslationUnit → List Tree.Frame → List Graph.Frame → Type 0
ThreadTogether unit [] [] = ⊥
ThreadTogether unit [] (g ∷ []) = (g.node ≡ 1) × (g.waits ≡ None)
ThreadTogether unit [] (g ∷ g' ∷ gs) = ⊥
ThreadTogether unit (t ∷ ts) [] = ⊥
ThreadTogether unit (t ∷ ts) (g ∷ gs) = (f : Function) × FrameTogether unit f t g × (g.waits ≡ None) × FramesBelow unit t.func ts gs

abbrev pub ThreadsTogether : TranslationUnit → List (List Tree.Frame) → List (List Graph.Frame) → Type 0
ThreadsTogether unit [] [] = Unit {0}
ThreadsTogether unit [] (g ∷ gs) = ⊥
ThreadsTogether unit (t ∷ ts) [] = ⊥
ThreadsTogether unit (t ∷ ts) (g ∷ gs) = ThreadTogether unit t g × ThreadsTogether unit ts gs

-- the globals fit their declared widths
pub record Together (unit : TranslationUnit) (t : Config Tree.Frame) (g : Config Graph.Frame) : Type 0 where
  pub globals : t.globals ≡ g.globals
  pub owners : t.owners ≡ g.owners
  pub threads : ThreadsTogether unit t.threads g.threads
  pub fit : FitEach unit.globals t.globals
