-- The folds of these definitions, read form by form: one row for each form of expression and of
-- statement, in terms of its parts.
use Rattle.std.specs.Prelude.{◌≡◌, ℕ, ℤ, List, [], ◌∷◌, ◌++◌, map, Option, None, Some, Ok}
use Rattle.std.specs.Option.{option_map}
use Rattle.gob_tree.specs.declared.place.Place.{Place}
use Rattle.gob_tree.specs.declared.expr.Width.{Width}
use Rattle.gob_tree.specs.declared.expr.UnOp.{UnOp}
use Rattle.gob_tree.specs.declared.expr.BinOp.{BinOp}
use Rattle.gob_tree.specs.declared.expr.Expr.{Expr, Number, Local, Global, Nondet, Unary, Binary, Call}
use Rattle.gob_tree.specs.declared.stmt.Stmt as Stmt
use Rattle.gob_tree.specs.declared.stmt.Stmt.{Stmt}
use Rattle.gob_tree.specs.declared.stmt.Target.{Target}
use Rattle.gob_tree.specs.declared.stmt.Placed.{Placed}
use Rattle.gob_tree.specs.declared.graph.Action.{Action}
use Rattle.gob_tree.specs.declared.graph.Action as Action
use Rattle.gob_tree.specs.declared.unit.Slot.{Slot}
use Rattle.c_meaning.specs.declared.demand.Demand as Demand
use Rattle.c_meaning.specs.declared.config.Todo.{Todo}
use Rattle.c_meaning.specs.declared.config.Todo.TheVariants.{Stmt as Doing, Test}
use Rattle.c_meaning.specs.Demand.{slot_width, value_at, unary_width, unary_value, binary_width, binary_value, early_value, wider, and_then, next_input, decided_or, width_of, demand_of, demands_of}
use Rattle.c_meaning.specs.Tree.{statements, with_front}
use Rattle.c_meaning.specs.Graph.{FlowGraph, Route, HoistState, next_node, with_edge, hoisting_of, hoist_all, fetch, unary_hoist, binary_join, stop_of, call_fetch, hoisted_expr, hoisted_exprs, last_edge, call_edge, sequence, if_flow, while_flow, do_flow, for_first, for_flow, condition, lowering_of}

-- a statement at a place
abbrev pub placed : Place → Stmt → Placed
placed place s = record { place = place; stmt = s }

-- the width of each form of expression
pub record WidthRows : Type 0 where
  pub number : (n : ℤ) (w : Width) (slots : List Slot) → width_of (Number n w) slots ≡ w
  pub local : (x : ℕ) (slots : List Slot) → width_of (Local x) slots ≡ slot_width slots x
  pub global : (g : ℕ) (w : Width) (slots : List Slot) → width_of (Global g w) slots ≡ w
  pub nondet : (w : Width) (slots : List Slot) → width_of (Nondet w) slots ≡ w
  pub unary : (op : UnOp) (a : Expr) (slots : List Slot) → width_of (Unary op a) slots ≡ unary_width op (width_of a slots)
  pub binary : (op : BinOp) (a b : Expr) (slots : List Slot)
      → width_of (Binary op a b) slots ≡ binary_width op (width_of a slots) (width_of b slots)
  pub call : (f : ℕ) (w : Width) (args : List Expr) (slots : List Slot) → width_of (Call f w args) slots ≡ w

-- the value of each form of expression
pub record DemandRows : Type 0 where
  pub number : (n : ℤ) (w : Width) (slots : List Slot) (values ins : List ℤ)
      → demand_of (Number n w) slots values ins ≡ (Ok n, ins)
  pub local : (x : ℕ) (slots : List Slot) (values ins : List ℤ)
      → demand_of (Local x) slots values ins ≡ (Ok (value_at values x), ins)
  pub global : (g : ℕ) (w : Width) (slots : List Slot) (values ins : List ℤ)
      → demand_of (Global g w) slots values ins ≡ next_input (Demand.TheVariants.Global g) ins
  pub nondet : (w : Width) (slots : List Slot) (values ins : List ℤ)
      → demand_of (Nondet w) slots values ins ≡ next_input (Demand.TheVariants.Nondet w) ins
  pub unary : (op : UnOp) (a : Expr) (slots : List Slot) (values ins : List ℤ)
      → demand_of (Unary op a) slots values ins
      ≡ and_then (demand_of a slots values ins) (λ n rest. (Ok (unary_value op (width_of a slots) n), rest))
  pub binary : (op : BinOp) (a b : Expr) (slots : List Slot) (values ins : List ℤ)
      → demand_of (Binary op a b) slots values ins
      ≡ and_then (demand_of a slots values ins) (λ n rest.
      decided_or (early_value op n) rest
      (and_then (demand_of b slots values rest) (λ m rest'. (binary_value op (wider (width_of a slots) (width_of b slots)) n m, rest'))))
  pub call : (f : ℕ) (w : Width) (args : List Expr) (slots : List Slot) (values ins : List ℤ)
      → demand_of (Call f w args) slots values ins
      ≡ and_then (demands_of args slots values ins) (λ ns rest. next_input (Demand.TheVariants.Call f ns) rest)

-- what unrolls as soon as it stands in front
pub record UnrollRows : Type 0 where
  pub block : (place : Place) (s : Placed) (ss : List Placed) (rest : List Todo)
      → with_front (placed place (Stmt.Block (s ∷ ss))) rest ≡ with_front s (statements ss ++ rest)
  pub do_loop : (place : Place) (body : Placed) (e : Expr) (rest : List Todo)
      → with_front (placed place (Stmt.DoWhile body e)) rest ≡ with_front body (Test (placed place (Stmt.DoWhile body e)) ∷ rest)
  pub bare_for : (place : Place) (test : Option Expr) (last : Option Placed) (body : Placed) (rest : List Todo)
      → with_front (placed place (Stmt.For [] test last body)) rest ≡ Test (placed place (Stmt.For [] test last body)) ∷ rest
  pub for_loop : (place : Place) (s : Placed) (ss : List Placed) (test : Option Expr) (last : Option Placed) (body : Placed) (rest : List Todo)
      → with_front (placed place (Stmt.For (s ∷ ss) test last body)) rest
      ≡ with_front s (statements ss ++ Test (placed place (Stmt.For (s ∷ ss) test last body)) ∷ rest)
  pub empty_block : (place : Place) (rest : List Todo) → with_front (placed place (Stmt.Block [])) rest ≡ Doing (placed place (Stmt.Block [])) ∷ rest
  pub while_loop : (place : Place) (e : Expr) (body : Placed) (rest : List Todo)
      → with_front (placed place (Stmt.While e body)) rest ≡ Doing (placed place (Stmt.While e body)) ∷ rest
  pub branch : (place : Place) (e : Expr) (a : Placed) (b : Option Placed) (rest : List Todo)
      → with_front (placed place (Stmt.If e a b)) rest ≡ Doing (placed place (Stmt.If e a b)) ∷ rest

-- how each form of expression is hoisted
pub record HoistRows : Type 0 where
  pub number : (n : ℤ) (w : Width) (place : Place) (s : HoistState) → (hoisting_of (Number n w)).hoist place s ≡ (Number n w, s)
  pub local : (x : ℕ) (place : Place) (s : HoistState) → (hoisting_of (Local x)).hoist place s ≡ (Local x, s)
  pub global : (g : ℕ) (w : Width) (place : Place) (s : HoistState)
      → (hoisting_of (Global g w)).hoist place s ≡ fetch place w (λ t. Action.TheVariants.Read t g) s
  pub nondet : (w : Width) (place : Place) (s : HoistState)
      → (hoisting_of (Nondet w)).hoist place s ≡ fetch place w (λ t. Action.TheVariants.Nondet t) s
  pub unary : (op : UnOp) (a : Expr) (place : Place) (s : HoistState)
      → (hoisting_of (Unary op a)).hoist place s ≡ unary_hoist (Unary op) ((hoisting_of a).hoist place s)
  pub binary : (op : BinOp) (a b : Expr) (place : Place) (s : HoistState)
      → (hoisting_of (Binary op a b)).hoist place s ≡ binary_join op (stop_of op) (hoisting_of b) place ((hoisting_of a).hoist place s)
  pub call : (f : ℕ) (w : Width) (args : List Expr) (place : Place) (s : HoistState)
      → (hoisting_of (Call f w args)).hoist place s ≡ call_fetch f w place (hoist_all (map hoisting_of args) place s)

-- the graph after a statement along a route
abbrev pub lowered : Placed → Route → FlowGraph → FlowGraph
lowered p = (lowering_of p).lower

-- how each form of statement is lowered
pub record LowerRows : Type 0 where
  pub declare : (place : Place) (x : ℕ) (r : Route) (d : FlowGraph)
      → lowered (placed place (Stmt.Declare x None)) r d ≡ with_edge r.from (Action.TheVariants.Nondet x) r.to d
  pub declare_as : (place : Place) (x : ℕ) (e : Expr) (r : Route) (d : FlowGraph)
      → lowered (placed place (Stmt.Declare x (Some e))) r d ≡ last_edge (Action.TheVariants.Assign x) r.to (hoisted_expr e place r.from d)
  pub thread_variable : (place : Place) (x : ℕ) (r : Route) (d : FlowGraph)
      → lowered (placed place (Stmt.DeclareThread x)) r d ≡ with_edge r.from Action.TheVariants.Skip r.to d
  pub assign_local : (place : Place) (x : ℕ) (e : Expr) (r : Route) (d : FlowGraph)
      → lowered (placed place (Stmt.Assign (Target.Local x) e)) r d ≡ last_edge (Action.TheVariants.Assign x) r.to (hoisted_expr e place r.from d)
  pub assign_global : (place : Place) (g : ℕ) (e : Expr) (r : Route) (d : FlowGraph)
      → lowered (placed place (Stmt.Assign (Target.Global g) e)) r d ≡ last_edge (Action.TheVariants.Write g) r.to (hoisted_expr e place r.from d)
  pub call_alone : (place : Place) (f : ℕ) (args : List Expr) (r : Route) (d : FlowGraph)
      → lowered (placed place (Stmt.CallOnly f args)) r d ≡ call_edge f r.to (hoisted_exprs args place r.from d)
  pub branch : (place : Place) (e : Expr) (a : Placed) (b : Option Placed) (r : Route) (d : FlowGraph)
      → lowered (placed place (Stmt.If e a b)) r d ≡ if_flow (lowering_of a) (option_map lowering_of b) r (hoisted_expr e place r.from d)
  pub while_loop : (place : Place) (e : Expr) (body : Placed) (r : Route) (d : FlowGraph)
      → lowered (placed place (Stmt.While e body)) r d ≡ while_flow (lowering_of body) r (hoisted_expr e place r.from d)
  pub do_loop : (place : Place) (body : Placed) (e : Expr) (r : Route) (d : FlowGraph)
      → lowered (placed place (Stmt.DoWhile body e)) r d ≡ do_flow (lowering_of body) e place r d
  pub for_loop : (place : Place) (first : List Placed) (test : Option Expr) (last : Option Placed) (body : Placed) (r : Route) (d : FlowGraph)
      → lowered (placed place (Stmt.For first test last body)) r d
      ≡ for_flow (option_map lowering_of last) (lowering_of body) place (next_node d) r
      (hoisted_expr (condition test) place (next_node d) (for_first (map lowering_of first) place r d))
  pub block : (place : Place) (all : List Placed) (r : Route) (d : FlowGraph)
      → lowered (placed place (Stmt.Block all)) r d ≡ sequence (map lowering_of all) r d
  pub break_off : (place : Place) (r : Route) (d : FlowGraph)
      → lowered (placed place Stmt.Break) r d ≡ with_edge r.from Action.TheVariants.Skip r.on_break d
  pub continue_on : (place : Place) (r : Route) (d : FlowGraph)
      → lowered (placed place Stmt.Continue) r d ≡ with_edge r.from Action.TheVariants.Skip r.on_continue d
  pub return_value : (place : Place) (e : Expr) (r : Route) (d : FlowGraph)
      → lowered (placed place (Stmt.Return (Some e))) r d ≡ last_edge (Action.TheVariants.Assign 0) 1 (hoisted_expr e place r.from d)
  pub return_plain : (place : Place) (r : Route) (d : FlowGraph)
      → lowered (placed place (Stmt.Return None)) r d ≡ with_edge r.from Action.TheVariants.Skip 1 d
  pub create : (place : Place) (x f : ℕ) (r : Route) (d : FlowGraph)
      → lowered (placed place (Stmt.Create x f)) r d ≡ with_edge r.from (Action.TheVariants.Create x f) r.to d
  pub join : (place : Place) (x : ℕ) (r : Route) (d : FlowGraph)
      → lowered (placed place (Stmt.Join x)) r d ≡ with_edge r.from (Action.TheVariants.Join x) r.to d
  pub lock : (place : Place) (m : ℕ) (r : Route) (d : FlowGraph)
      → lowered (placed place (Stmt.Lock m)) r d ≡ with_edge r.from (Action.TheVariants.Lock m) r.to d
  pub unlock : (place : Place) (m : ℕ) (r : Route) (d : FlowGraph)
      → lowered (placed place (Stmt.Unlock m)) r d ≡ with_edge r.from (Action.TheVariants.Unlock m) r.to d
  pub check : (place : Place) (e : Expr) (r : Route) (d : FlowGraph)
      → lowered (placed place (Stmt.Assert e)) r d ≡ last_edge Action.TheVariants.Assert r.to (hoisted_expr e place r.from d)
  pub nothing : (place : Place) (r : Route) (d : FlowGraph)
      → lowered (placed place Stmt.Empty) r d ≡ with_edge r.from Action.TheVariants.Skip r.to d
