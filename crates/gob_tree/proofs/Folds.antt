-- A fold over an expression, one level down.
use Rattle.std.proofs.Common.{◌≡◌, sym, ap, ◌∙◌, ℕ, ℤ, List, map}
use Rattle.gob_tree.specs.declared.expr.Width.{Width}
use Rattle.gob_tree.specs.declared.expr.UnOp.{UnOp}
use Rattle.gob_tree.specs.declared.expr.BinOp.{BinOp}
use Rattle.gob_tree.specs.declared.expr.Expr.{Expr, Number, Local, Global, Nondet, Unary, Binary, Call, fold-Expr, fold-roll-Expr}
use Rattle.gob_tree.specs.declared.expr.Expr.TheOpen.{Expr-F}
use Rattle.gob_tree.specs.declared.expr.Expr.TheVariants.{rolls-Number, rolls-Local, rolls-Global, rolls-Nondet, rolls-Unary, rolls-Binary, rolls-Call}

module _ (A : Type 0) (step : Expr-F A → A) where
  pub fold-Number : (n : ℤ) (w : Width) → fold-Expr A step (Number n w) ≡ step (Expr-F.Number n w)
  fold-Number n w = ap (fold-Expr A step) (sym (rolls-Number n w)) ∙ fold-roll-Expr A step (Expr-F.Number n w)

  pub fold-Local : (x : ℕ) → fold-Expr A step (Local x) ≡ step (Expr-F.Local x)
  fold-Local x = ap (fold-Expr A step) (sym (rolls-Local x)) ∙ fold-roll-Expr A step (Expr-F.Local x)

  pub fold-Global : (g : ℕ) (w : Width) → fold-Expr A step (Global g w) ≡ step (Expr-F.Global g w)
  fold-Global g w = ap (fold-Expr A step) (sym (rolls-Global g w)) ∙ fold-roll-Expr A step (Expr-F.Global g w)

  pub fold-Nondet : (w : Width) → fold-Expr A step (Nondet w) ≡ step (Expr-F.Nondet w)
  fold-Nondet w = ap (fold-Expr A step) (sym (rolls-Nondet w)) ∙ fold-roll-Expr A step (Expr-F.Nondet w)

  pub fold-Unary : (op : UnOp) (a : Expr) → fold-Expr A step (Unary op a) ≡ step (Expr-F.Unary op (fold-Expr A step a))
  fold-Unary op a = ap (fold-Expr A step) (sym (rolls-Unary op a)) ∙ fold-roll-Expr A step (Expr-F.Unary op a)

  pub fold-Binary : (op : BinOp) (a b : Expr) → fold-Expr A step (Binary op a b) ≡ step (Expr-F.Binary op (fold-Expr A step a) (fold-Expr A step b))
  fold-Binary op a b = ap (fold-Expr A step) (sym (rolls-Binary op a b)) ∙ fold-roll-Expr A step (Expr-F.Binary op a b)

  pub fold-Call : (f : ℕ) (w : Width) (args : List Expr) → fold-Expr A step (Call f w args) ≡ step (Expr-F.Call f w (map (fold-Expr A step) args))
  fold-Call f w args = ap (fold-Expr A step) (sym (rolls-Call f w args)) ∙ fold-roll-Expr A step (Expr-F.Call f w args)
