-- Induction over an expression, by the parts of each form.
use Rattle.std.proofs.Common.{sym, subst, ℕ, ℤ, List, [], ◌∷◌, map}
use Rattle.gob_tree.specs.declared.expr.Width.{Width}
use Rattle.gob_tree.specs.declared.expr.UnOp.{UnOp}
use Rattle.gob_tree.specs.declared.expr.BinOp.{BinOp}
use Rattle.gob_tree.specs.declared.expr.Expr.{Expr, Number, Local, Global, Nondet, Unary, Binary, Call, roll-Expr, map-Expr, ind-Expr}
use Rattle.gob_tree.specs.declared.expr.Expr.TheOpen.{Expr-F}
use Rattle.gob_tree.specs.declared.expr.Expr.TheVariants.{rolls-Number, rolls-Local, rolls-Global, rolls-Nondet, rolls-Unary, rolls-Binary, rolls-Call}

-- a fact of each member of a list
abbrev pub Each : {A : Type 0} → (A → Type 0) → List A → Type 0
Each P [] = Unit {0}
Each P (x ∷ xs) = P x × Each P xs

module _ (P : Expr → Type 0) where
  Part : Type 0
  Part = (e : Expr) × P e

  each_part : (parts : List ((e : Expr) × P e)) → Each P (map (λ p. p.0) parts)
  each_part [] = tt
  each_part (p ∷ ps) = (p.1, each_part ps)

  module _ (number : (n : ℤ) (w : Width) → P (Number n w)) (local : (x : ℕ) → P (Local x)) (global : (g : ℕ) (w : Width) → P (Global g w)) (nondet : (w : Width) → P (Nondet w)) (unary : (op : UnOp) (a : Expr) → P a → P (Unary op a)) (binary : (op : BinOp) (a b : Expr) → P a → P b → P (Binary op a b)) (call : (f : ℕ) (w : Width) (args : List Expr) → Each P args → P (Call f w args)) where
    layer : (y : Expr-F ((e : Expr) × P e)) → P (roll-Expr (map-Expr ((e : Expr) × P e) Expr (λ p. p.0) y))
    layer (Expr-F.Number n w) = subst P (sym (rolls-Number n w)) (number n w)
    layer (Expr-F.Local x) = subst P (sym (rolls-Local x)) (local x)
    layer (Expr-F.Global g w) = subst P (sym (rolls-Global g w)) (global g w)
    layer (Expr-F.Nondet w) = subst P (sym (rolls-Nondet w)) (nondet w)
    layer (Expr-F.Unary op a) = subst P (sym (rolls-Unary op a.0)) (unary op a.0 a.1)
    layer (Expr-F.Binary op a b) = subst P (sym (rolls-Binary op a.0 b.0)) (binary op a.0 b.0 a.1 b.1)
    layer (Expr-F.Call f w args) = subst P (sym (rolls-Call f w (map (λ p. p.0) args))) (call f w (map (λ p. p.0) args) (each_part args))

    pub by_forms : (e : Expr) → P e
    by_forms = ind-Expr P (λ x y e. subst (λ z. P (roll-Expr z)) e (layer y))
