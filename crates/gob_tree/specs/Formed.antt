-- What a program is to be before an analysis takes it.
use Rattle.std.specs.Prelude.{◌≡◌, ◌≢◌, ℕ, ◌^◌, ◌<◌, ◌≤◌, ◌++◌, Bool, false, ◌&&◌, nat_lt, List, length, map, sum, slice_get, All, AllPairs, IsSomeAnd, IsTrue, IfSome}
use Rattle.gob_tree.specs.Widths.{fits, returned_width}
use Rattle.gob_tree.specs.declared.expr.Width.TheVariants.{W32}
use Rattle.gob_tree.specs.declared.expr.Expr.{Expr}
use Rattle.gob_tree.specs.declared.expr.Expr.TheOpen.{Expr-F}
use Rattle.gob_tree.specs.declared.expr.Expr.TheFolds.{fold-Expr}
use Rattle.gob_tree.specs.declared.graph.Action.{Action}
use Rattle.gob_tree.specs.declared.graph.Action.TheVariants.{Assign, Read, Write, Nondet, Guard, Assert, Lock, Unlock, Create, Join, Call, Skip}
use Rattle.gob_tree.specs.declared.graph.Edge.{Edge}
use Rattle.gob_tree.specs.declared.graph.FuncGraph.{FuncGraph}
use Rattle.gob_tree.specs.declared.graph.Program.{Program}
use Rattle.gob_tree.specs.declared.unit.FuncKind.TheVariants.{Int, Thread}
use Rattle.gob_tree.specs.declared.unit.GlobalDecl.{GlobalDecl}

-- One node of an expression, with the answer for each child in its place.
abbrev pub plain_step : ℕ → Expr-F Bool → Bool
plain_step slots (Expr-F.Number n w) = fits w n
plain_step slots (Expr-F.Local x) = nat_lt x slots
plain_step slots (Expr-F.Global g w) = false
plain_step slots (Expr-F.Nondet w) = false
plain_step slots (Expr-F.Unary op a) = a
plain_step slots (Expr-F.Binary op a b) = a && b
plain_step slots (Expr-F.Call f w args) = false

-- an expression of an edge: numbers that fit their width, locals and operators
abbrev pub is_plain : ℕ → Expr → Bool
is_plain slots = fold-Expr Bool (plain_step slots)

abbrev pub IsThreadFunction : FuncGraph → Type 0
IsThreadFunction f = f.kind ≡ Thread

-- the numbers and expressions of an action, in a function with so many slots and thread variables
abbrev pub IsFormedAction : Program → FuncGraph → Action → Type 0
IsFormedAction p f (Assign x e) = (x < length f.slots) × IsTrue (is_plain (length f.slots) e)
IsFormedAction p f (Read x g) = (x < length f.slots) × (g < length p.globals)
IsFormedAction p f (Write g e) = (g < length p.globals) × IsTrue (is_plain (length f.slots) e)
IsFormedAction p f (Nondet x) = x < length f.slots
IsFormedAction p f (Guard e wanted) = IsTrue (is_plain (length f.slots) e)
IsFormedAction p f (Assert e) = IsTrue (is_plain (length f.slots) e)
IsFormedAction p f (Lock m) = m < length p.mutexes
IsFormedAction p f (Unlock m) = m < length p.mutexes
IsFormedAction p f (Create t g) = (t < length f.threads) × IsSomeAnd (slice_get p.funcs g) IsThreadFunction
IsFormedAction p f (Join t) = t < length f.threads
IsFormedAction p f (Call d g args) =
    IfSome d (λ x. x < length f.slots) × (g ≢ p.main)
    × IsSomeAnd (slice_get p.funcs g) (λ called. (length args ≡ called.params) × (called.kind ≢ Thread))
    × All (λ e. IsTrue (is_plain (length f.slots) e)) args
IsFormedAction p f Skip = Unit {0}

pub record IsFormedEdge (p : Program) (f : FuncGraph) (e : Edge) : Type 0 where
  pub begins : e.from < length f.nodes
  pub ends : e.to < length f.nodes
  pub not_at_entry : 0 < e.to
  pub action : IsFormedAction p f e.act

pub record IsFormedFunction (p : Program) (f : FuncGraph) : Type 0 where
  pub entry_and_exit : 2 ≤ length f.nodes
  pub returned_and_params : f.params < length f.slots
  pub params_limit : f.params ≤ 8
  pub slots_limit : length f.slots ≤ 128
  pub edges_limit : length f.edges < 2 ^ 32
  pub edges_formed : All (IsFormedEdge p f) f.edges
  pub thread_has_no_params : f.kind ≡ Thread → f.params ≡ 0

-- the names that share one set
abbrev pub names_of : Program → List (List ℕ)
names_of p = map (λ (f : FuncGraph). f.name) p.funcs ++ map (λ (g : GlobalDecl). g.name) p.globals ++ p.mutexes

abbrev pub node_count : Program → ℕ
node_count p = sum (map (λ (f : FuncGraph). length f.nodes) p.funcs)

pub record IsFormed (p : Program) : Type 0 where
  pub main_there : IsSomeAnd (slice_get p.funcs p.main) (λ f. (f.kind ≡ Int) × (f.params ≡ 0) × (returned_width f.slots ≡ W32))
  pub names_differ : AllPairs (λ (a b : List ℕ). a ≢ b) (names_of p)
  pub functions_formed : All (IsFormedFunction p) p.funcs
  pub initials_fit : All (λ (g : GlobalDecl). IsTrue (fits g.width g.initial)) p.globals
  pub functions_limit : length p.funcs ≤ 128
  pub nodes_limit : node_count p ≤ 4096
  pub globals_limit : length p.globals ≤ 64
  pub mutexes_limit : length p.mutexes ≤ 8
