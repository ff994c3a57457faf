-- A function of a program with each number of a function, a global or a mutex read as its name. A
-- number that names nothing is read as no name. Places are left out: of the nodes their count stays.
use Rattle.std.specs.Prelude.{◌≡◌, ℕ, ℤ, Bool, List, [], ◌∷◌, Option, length, map, slice_get, IsSomeAnd}
use Rattle.std.specs.Option.{option_map}
use Rattle.gob_tree.specs.declared.expr.Width.{Width}
use Rattle.gob_tree.specs.declared.expr.UnOp.{UnOp}
use Rattle.gob_tree.specs.declared.expr.BinOp.{BinOp}
use Rattle.gob_tree.specs.declared.expr.Expr.{Expr}
use Rattle.gob_tree.specs.declared.expr.Expr.TheOpen.{Expr-F}
use Rattle.gob_tree.specs.declared.expr.Expr.TheFolds.{fold-Expr}
use Rattle.gob_tree.specs.declared.graph.Action.{Action}
use Rattle.gob_tree.specs.declared.graph.Action.TheVariants as actions
use Rattle.gob_tree.specs.declared.graph.Edge.{Edge}
use Rattle.gob_tree.specs.declared.graph.FuncGraph.{FuncGraph}
use Rattle.gob_tree.specs.declared.graph.Program.{Program}
use Rattle.gob_tree.specs.declared.unit.FuncKind.{FuncKind}
use Rattle.gob_tree.specs.declared.unit.Slot.{Slot}
use Rattle.gob_tree.specs.declared.unit.GlobalDecl.{GlobalDecl}

-- ---- names

abbrev pub Name : Type 0
Name = Option (List ℕ)

abbrev pub function_name : Program → ℕ → Name
function_name p f = option_map (λ (x : FuncGraph). x.name) (slice_get p.funcs f)

abbrev pub global_name : Program → ℕ → Name
global_name p g = option_map (λ (x : GlobalDecl). x.name) (slice_get p.globals g)

abbrev pub mutex_name : Program → ℕ → Name
mutex_name p m = slice_get p.mutexes m

-- ---- expressions

mutual
  pub data NamedExpr : Type 0 where
    number : ℤ → Width → NamedExpr
    local : ℕ → NamedExpr
    global : Name → Width → NamedExpr
    nondet : Width → NamedExpr
    unary : UnOp → NamedExpr → NamedExpr
    binary : BinOp → NamedExpr → NamedExpr → NamedExpr
    call : Name → Width → NamedExprs → NamedExpr

  pub data NamedExprs : Type 0 where
    no_exprs : NamedExprs
    expr : NamedExpr → NamedExprs → NamedExprs

abbrev pub in_order : List NamedExpr → NamedExprs
in_order [] = no_exprs
in_order (e ∷ es) = expr e (in_order es)

abbrev pub named_step : Program → Expr-F NamedExpr → NamedExpr
named_step p (Expr-F.Number n w) = number n w
named_step p (Expr-F.Local x) = local x
named_step p (Expr-F.Global g w) = global (global_name p g) w
named_step p (Expr-F.Nondet w) = nondet w
named_step p (Expr-F.Unary op a) = unary op a
named_step p (Expr-F.Binary op a b) = binary op a b
named_step p (Expr-F.Call f w args) = call (function_name p f) w (in_order args)

abbrev pub named_expr : Program → Expr → NamedExpr
named_expr p = fold-Expr NamedExpr (named_step p)

abbrev pub named_exprs : Program → List Expr → NamedExprs
named_exprs p es = in_order (map (named_expr p) es)

-- ---- actions and graphs

pub data NamedAction : Type 0 where
  assign : ℕ → NamedExpr → NamedAction
  read : ℕ → Name → NamedAction
  write : Name → NamedExpr → NamedAction
  arbitrary : ℕ → NamedAction
  guard : NamedExpr → Bool → NamedAction
  assert : NamedExpr → NamedAction
  lock : Name → NamedAction
  unlock : Name → NamedAction
  create : ℕ → Name → NamedAction
  join : ℕ → NamedAction
  call_of : Option ℕ → Name → NamedExprs → NamedAction
  skip : NamedAction

abbrev pub named_action : Program → Action → NamedAction
named_action p (actions.Assign x e) = assign x (named_expr p e)
named_action p (actions.Read x g) = read x (global_name p g)
named_action p (actions.Write g e) = write (global_name p g) (named_expr p e)
named_action p (actions.Nondet x) = arbitrary x
named_action p (actions.Guard e wanted) = guard (named_expr p e) wanted
named_action p (actions.Assert e) = assert (named_expr p e)
named_action p (actions.Lock m) = lock (mutex_name p m)
named_action p (actions.Unlock m) = unlock (mutex_name p m)
named_action p (actions.Create t f) = create t (function_name p f)
named_action p (actions.Join t) = join t
named_action p (actions.Call d f args) = call_of d (function_name p f) (named_exprs p args)
named_action p actions.Skip = skip

pub record NamedEdge : Type 0 where
  pub from : ℕ
  pub act : NamedAction
  pub to : ℕ

abbrev pub named_edge : Program → Edge → NamedEdge
named_edge p e = record { from = e.from; act = named_action p e.act; to = e.to }

pub record NamedGraph : Type 0 where
  pub name : List ℕ
  pub kind : FuncKind
  pub params : ℕ
  pub slots : List Slot
  pub threads : List (List ℕ)
  pub nodes : ℕ
  pub edges : List NamedEdge

abbrev pub named_graph : Program → FuncGraph → NamedGraph
named_graph p f = record {
  name = f.name;
  kind = f.kind;
  params = f.params;
  slots = f.slots;
  threads = f.threads;
  nodes = length f.nodes;
  edges = map (named_edge p) f.edges;
}

-- the two functions are there, and their graphs are equal by names
abbrev pub SameFunction : Program → ℕ → Program → ℕ → Type 0
SameFunction a f b g = IsSomeAnd (slice_get a.funcs f) (λ x. IsSomeAnd (slice_get b.funcs g) (λ y. named_graph a x ≡ named_graph b y))
