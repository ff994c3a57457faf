-- What an expression means, and what its hoisting does in the graph of its function.
--
-- A reader should check: that the inputs that are left are those of the demand, that the value is the
-- hoisted expression's on the slots that are reached, and which edge waits for which missing input.
use Rattle.std.specs.Prelude.{◌≡◌, ◌≤◌, ◌⊎◌, ℕ, ℤ, false, List, ◌++◌, length, take, Some, Result, Ok, Err}
use Rattle.gob_tree.specs.declared.expr.Expr.{Expr}
use Rattle.gob_tree.specs.declared.expr.Width.{Width}
use Rattle.gob_tree.specs.declared.graph.Action.TheVariants as actions
use Rattle.gob_tree.specs.declared.unit.Function.{Function}
use Rattle.c_meaning.specs.declared.demand.Demand.{Demand}
use Rattle.c_meaning.specs.declared.demand.Demand.TheVariants.{Global, Nondet, Call, Fault}
use Rattle.c_meaning.specs.Demand.{slot_width, values_of}
use Rattle.c_meaning.specs.Graph.{FlowGraph, flow_of, graph_slots}
use Rattle.c_meaning.specs.Walk.{moment_along}
use Rattle.graph_law.specs.Laying.{Extends, HasEdge}

-- a graph on the way to that of a function: its edges and its temporaries come first there
pub record Within (f : Function) (d : FlowGraph) : Type 0 where
  pub named : d.named ≡ length f.slots
  pub edges : Extends d (flow_of f)
  pub more : List Width
  pub temps : (flow_of f).temps ≡ d.temps ++ more

-- an edge that gets an input has its slot behind those with names, and doesn't lead to the exit
abbrev pub IsFetch : Function → ℕ → ℕ → Type 0
IsFetch f t to = (length f.slots ≤ t) × (2 ≤ to)

-- an edge that leaves the node gets the missing input into a temporary: a global, an arbitrary
-- number of the temporary's width, or the result of a call whose arguments have the values that
-- are asked for
abbrev pub WaitsFor : Function → Demand → ℕ → List ℤ → Type 0
WaitsFor f (Global g) node values = (t : ℕ) × (to : ℕ) × HasEdge f false node (actions.Read t g) to × IsFetch f t to
WaitsFor f (Nondet w) node values = (t : ℕ) × (to : ℕ) × HasEdge f false node (actions.Nondet t) to × (slot_width (graph_slots f) t ≡ w) × IsFetch f t to
WaitsFor f (Call g ns) node values =
    (t : ℕ) × (to : ℕ) × (args : List Expr) × HasEdge f false node (actions.Call (Some t) g args) to × (values_of args (graph_slots f) values ≡ Ok ns) × IsFetch f t to
WaitsFor f Fault node values = ⊥

-- The inputs but the rest lead from a node to another one, the named slots stay as they are, and
-- this holds of the values there.
pub record Reaches (f : Function) (from : ℕ) (values ins : List ℤ) (to : ℕ) (rest : List ℤ) (Holds : List ℤ → Type 0) : Type 0 where
  pub new : List ℤ
  pub along :
      moment_along (graph_slots f) (flow_of f).edges ins (record { node = from; slots = values })
      ≡ moment_along (graph_slots f) (flow_of f).edges rest (record { node = to; slots = new })
  pub room : length new ≡ length values
  pub named : take (length f.slots) values ≡ take (length f.slots) new
  pub holds : Holds new

-- All inputs lead from a node to one that waits for what is missing.
pub record Lacks (f : Function) (from : ℕ) (values ins : List ℤ) (missing : Demand) : Type 0 where
  pub node : ℕ
  pub new : List ℤ
  pub along : moment_along (graph_slots f) (flow_of f).edges ins (record { node = from; slots = values }) ≡ Some (record { node = node; slots = new })
  pub named : take (length f.slots) values ≡ take (length f.slots) new
  pub waits : WaitsFor f missing node new

-- by what the demand answers: the value, and inputs that are left, or what stands in the way
abbrev pub Meets : {A : Type 0} → Function → ℕ → List ℤ → List ℤ → ℕ → (A → List ℤ → Type 0) → Result A Demand → List ℤ → Type 0
Meets f from values ins to Holds (Ok v) rest = Reaches f from values ins to rest (Holds v)
Meets f from values ins to Holds (Err d) rest = (d ≡ Fault) ⊎ Lacks f from values ins d
