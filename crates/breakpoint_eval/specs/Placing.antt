-- Expressions of a question with each name as the place of what it stands for.
--
-- A reader should check: that an expression with a name that stands for nothing has no such form.
use Rattle.std.specs.Prelude.{ℕ, List, Option, None, Some, option_map, option_and_then}
use Rattle.gob_tree.specs.declared.expr.Expr.{Expr}
use Rattle.gob_tree.specs.declared.expr.Expr.TheVariants.{Number, Local, Unary, Binary}
use Rattle.c_parse.specs.declared.raw.expr.RawExpr.{RawExpr}
use Rattle.c_parse.specs.declared.raw.expr.RawExpr.TheOpen.{RawExpr-F}
use Rattle.c_parse.specs.declared.raw.expr.RawExpr.TheFolds.{fold-RawExpr}

-- One node of an expression, with each part's form in its place.
abbrev pub placed_step : (List ℕ → Option ℕ) → RawExpr-F (Option Expr) → Option Expr
placed_step place (RawExpr-F.Number n w) = Some (Number n w)
placed_step place (RawExpr-F.Name x) = option_map (λ (i : ℕ). Local i) (place x.text)
placed_step place (RawExpr-F.Unary op a) = option_map (λ (x : Expr). Unary op x) a
placed_step place (RawExpr-F.Binary op a b) = option_and_then (λ (x : Expr). option_map (λ (y : Expr). Binary op x y) b) a
placed_step place (RawExpr-F.Call f args) = None

-- the expression with its names as places; none where one of them stands for nothing
abbrev pub placed : (List ℕ → Option ℕ) → RawExpr → Option Expr
placed place = fold-RawExpr (Option Expr) (placed_step place)
