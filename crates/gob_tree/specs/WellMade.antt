-- What a unit is to be before it runs or becomes graphs: what the checks of the language ask of a
-- tree whose names are resolved (C17, 6.2 to 6.9).
--
-- A reader should check: which numbers have to be in range, which kind of function may stand where,
-- which widths are written and must agree, where `break`, `continue` and `return` may stand, and
-- that a body ends in a `return`.
use Rattle.std.specs.Prelude.{◌≡◌, ◌≢◌, ℕ, pos, int_le, ◌<◌, ◌++◌, Bool, true, false, not, ◌&&◌, nat_eq, nat_lt, List, [], ◌∷◌, length, map, Option, slice_get, All, AllPairs, IsSomeAnd, IsTrue}
use Rattle.std.specs.List.{list_all}
use Rattle.std.specs.Option.{option_map_or}
use Rattle.gob_tree.specs.Widths.{fits, same_width, returned_width}
use Rattle.gob_tree.specs.declared.expr.Width.TheVariants.{W32}
use Rattle.gob_tree.specs.declared.expr.Expr.{Expr}
use Rattle.gob_tree.specs.declared.expr.Expr.TheOpen.{Expr-F}
use Rattle.gob_tree.specs.declared.expr.Expr.TheFolds.{fold-Expr}
use Rattle.gob_tree.specs.declared.stmt.Target.{Target}
use Rattle.gob_tree.specs.declared.stmt.Stmt.{out-Stmt}
use Rattle.gob_tree.specs.declared.stmt.Stmt.TheOpen.{Stmt-F, Placed-F}
use Rattle.gob_tree.specs.declared.stmt.Placed.{Placed, fold-Placed}
use Rattle.gob_tree.specs.declared.unit.FuncKind.{FuncKind}
use Rattle.gob_tree.specs.declared.unit.FuncKind.TheVariants.{Int, Void, Thread}
use Rattle.gob_tree.specs.declared.unit.Function.{Function}
use Rattle.gob_tree.specs.declared.unit.GlobalDecl.{GlobalDecl}
use Rattle.gob_tree.specs.declared.unit.Unit.{Unit as TranslationUnit}

-- ---- functions

abbrev pub is_int : FuncKind → Bool
is_int Int = true
is_int Void = false
is_int Thread = false

abbrev pub is_thread : FuncKind → Bool
is_thread Int = false
is_thread Void = false
is_thread Thread = true

-- a parameter or a declared local: slot 0 is the returned value, which has no name
abbrev pub is_local : Function → ℕ → Bool
is_local f x = nat_lt 0 x && nat_lt x (length f.slots)

-- a function that is there and of which this holds
abbrev pub is_function : TranslationUnit → ℕ → (Function → Bool) → Bool
is_function unit g holds = option_map_or holds (slice_get unit.funcs g) false

-- a call names a function that isn't `main`, with as many arguments as it has parameters
abbrev pub is_called : TranslationUnit → ℕ → ℕ → (Function → Bool) → Bool
is_called unit g args holds =
    not (nat_eq g unit.main) && is_function unit g (λ called. nat_eq args called.params && holds called)

-- ---- expressions

-- One node of an expression, with the answer for each child in its place. A literal has no sign
-- and the width that its spelling gives it; a global has the width of its declaration; a call has
-- a value, so it names an int function, and has the width of that function's result.
abbrev pub expr_step : TranslationUnit → Function → Expr-F Bool → Bool
expr_step unit f (Expr-F.Number n w) = int_le (pos 0) n && fits w n
expr_step unit f (Expr-F.Local x) = is_local f x
expr_step unit f (Expr-F.Global g w) = option_map_or (λ decl. same_width decl.width w) (slice_get unit.globals g) false
expr_step unit f (Expr-F.Nondet w) = true
expr_step unit f (Expr-F.Unary op a) = a
expr_step unit f (Expr-F.Binary op a b) = a && b
expr_step unit f (Expr-F.Call g w args) =
    is_called unit g (length args) (λ called. is_int called.kind && same_width (returned_width called.slots) w) && list_all (λ made. made) args

-- an expression that may stand in this function
abbrev pub is_made_expr : TranslationUnit → Function → Expr → Bool
is_made_expr unit f = fold-Expr Bool (expr_step unit f)

abbrev pub is_made_or_missing : TranslationUnit → Function → Option Expr → Bool
is_made_or_missing unit f e = option_map_or (is_made_expr unit f) e true

-- ---- statements

-- what is asked of a statement: whether it is one that the head of a `for` takes, and whether it
-- may stand in this function, inside of a loop or outside of one
pub record StmtForm : Type 0 where
  pub heads_for : Bool
  pub made : Bool → Bool

-- The first and the last part of a `for` are declarations, assignments, calls and their like.
-- What of these the grammar takes as a last part is left to it.
abbrev pub heads_for_step : Stmt-F StmtForm StmtForm → Bool
heads_for_step (Stmt-F.Declare x e) = true
heads_for_step (Stmt-F.Assign to e) = true
heads_for_step (Stmt-F.CallOnly g args) = true
heads_for_step (Stmt-F.Create t g) = true
heads_for_step (Stmt-F.Join t) = true
heads_for_step (Stmt-F.Lock m) = true
heads_for_step (Stmt-F.Unlock m) = true
heads_for_step (Stmt-F.Assert e) = true
heads_for_step other = false

-- a part of a `for`'s head, where `inside` says whether that `for` stands in a loop itself
abbrev pub is_head_part : Bool → StmtForm → Bool
is_head_part inside s = s.heads_for && s.made inside

-- One statement, with the answers for its parts in their places. A function that returns a number
-- returns one everywhere; any other function none.
abbrev pub made_step : TranslationUnit → Function → Stmt-F StmtForm StmtForm → Bool → Bool
made_step unit f (Stmt-F.Declare x e) inside = is_local f x && is_made_or_missing unit f e
made_step unit f (Stmt-F.DeclareThread t) inside = nat_lt t (length f.threads)
made_step unit f (Stmt-F.Assign (Target.Local x) e) inside = is_local f x && is_made_expr unit f e
made_step unit f (Stmt-F.Assign (Target.Global g) e) inside = nat_lt g (length unit.globals) && is_made_expr unit f e
made_step unit f (Stmt-F.CallOnly g args) inside =
    is_called unit g (length args) (λ called. not (is_thread called.kind)) && list_all (is_made_expr unit f) args
made_step unit f (Stmt-F.If e a b) inside = is_made_expr unit f e && a.made inside && option_map_or (λ s. s.made inside) b true
made_step unit f (Stmt-F.While e body) inside = is_made_expr unit f e && body.made true
made_step unit f (Stmt-F.DoWhile body e) inside = body.made true && is_made_expr unit f e
made_step unit f (Stmt-F.For first test last body) inside =
    list_all (is_head_part inside) first && is_made_or_missing unit f test && option_map_or (is_head_part inside) last true && body.made true
made_step unit f (Stmt-F.Block all) inside = list_all (λ s. s.made inside) all
made_step unit f Stmt-F.Break inside = inside
made_step unit f Stmt-F.Continue inside = inside
made_step unit f (Stmt-F.Return e) inside = option_map_or (λ value. is_int f.kind && is_made_expr unit f value) e (not (is_int f.kind))
made_step unit f (Stmt-F.Create t g) inside = nat_lt t (length f.threads) && is_function unit g (λ started. is_thread started.kind)
made_step unit f (Stmt-F.Join t) inside = nat_lt t (length f.threads)
made_step unit f (Stmt-F.Lock m) inside = nat_lt m (length unit.mutexes)
made_step unit f (Stmt-F.Unlock m) inside = nat_lt m (length unit.mutexes)
made_step unit f (Stmt-F.Assert e) inside = is_made_expr unit f e
made_step unit f Stmt-F.Empty inside = true

abbrev pub form_step : TranslationUnit → Function → Stmt-F StmtForm StmtForm → StmtForm
form_step unit f s = record { heads_for = heads_for_step s; made = made_step unit f s }

abbrev pub placed_step : Placed-F StmtForm StmtForm → StmtForm
placed_step p = p.stmt

abbrev pub form_of : TranslationUnit → Function → Placed → StmtForm
form_of unit f = fold-Placed StmtForm StmtForm (form_step unit f) placed_step

-- a statement that may stand in this function, outside of any loop
abbrev pub is_made : TranslationUnit → Function → Placed → Bool
is_made unit f s = (form_of unit f s).made false

-- ---- functions and units

abbrev pub is_return_step : {A B : Type 0} → Stmt-F A B → Bool
is_return_step (Stmt-F.Return e) = true
is_return_step other = false

abbrev pub is_return : Placed → Bool
is_return s = is_return_step (out-Stmt s.stmt)

abbrev pub ends_in_return : List Placed → Bool
ends_in_return [] = false
ends_in_return (s ∷ []) = is_return s
ends_in_return (s ∷ s' ∷ ss) = ends_in_return (s' ∷ ss)

pub record IsWellMadeFunction (unit : TranslationUnit) (f : Function) : Type 0 where
  pub returned_and_params : f.params < length f.slots
  pub thread_has_no_params : f.kind ≡ Thread → f.params ≡ 0
  pub statements : All (λ s. IsTrue (is_made unit f s)) f.body
  pub ends : IsTrue (ends_in_return f.body)

-- the names that share one set
abbrev pub unit_names : TranslationUnit → List (List ℕ)
unit_names unit = map (λ (f : Function). f.name) unit.funcs ++ map (λ (g : GlobalDecl). g.name) unit.globals ++ unit.mutexes

-- `main` is an int function of 32 bits without parameters, and nobody calls it or starts it
pub record IsWellMade (unit : TranslationUnit) : Type 0 where
  pub main_there : IsSomeAnd (slice_get unit.funcs unit.main) (λ f. (f.kind ≡ Int) × (f.params ≡ 0) × (returned_width f.slots ≡ W32))
  pub names_differ : AllPairs (λ (a b : List ℕ). a ≢ b) (unit_names unit)
  pub functions : All (IsWellMadeFunction unit) unit.funcs
  pub initials_fit : All (λ (g : GlobalDecl). IsTrue (fits g.width g.initial)) unit.globals
