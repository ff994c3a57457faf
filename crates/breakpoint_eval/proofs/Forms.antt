-- A fold over an expression as it is written, one level down, and induction over its forms.
use Rattle.std.proofs.Common.{◌≡◌, sym, ap, ◌∙◌, subst, ℤ, List, map}
use Rattle.gob_tree.specs.declared.expr.Width.{Width}
use Rattle.gob_tree.specs.declared.expr.UnOp.{UnOp}
use Rattle.gob_tree.specs.declared.expr.BinOp.{BinOp}
use Rattle.c_parse.specs.declared.raw.expr.RawName.{RawName}
use Rattle.c_parse.specs.declared.raw.expr.RawExpr.{RawExpr, Number, Name, Unary, Binary, Call, fold-RawExpr, fold-roll-RawExpr, roll-RawExpr, map-RawExpr, ind-RawExpr}
use Rattle.c_parse.specs.declared.raw.expr.RawExpr.TheOpen.{RawExpr-F}
use Rattle.c_parse.specs.declared.raw.expr.RawExpr.TheVariants.{rolls-Number, rolls-Name, rolls-Unary, rolls-Binary, rolls-Call}

module _ (A : Type 0) (step : RawExpr-F A → A) where
  pub fold-Number : (n : ℤ) (w : Width) → fold-RawExpr A step (Number n w) ≡ step (RawExpr-F.Number n w)
  fold-Number n w = ap (fold-RawExpr A step) (sym (rolls-Number n w)) ∙ fold-roll-RawExpr A step (RawExpr-F.Number n w)

  pub fold-Name : (x : RawName) → fold-RawExpr A step (Name x) ≡ step (RawExpr-F.Name x)
  fold-Name x = ap (fold-RawExpr A step) (sym (rolls-Name x)) ∙ fold-roll-RawExpr A step (RawExpr-F.Name x)

  pub fold-Unary : (op : UnOp) (a : RawExpr) → fold-RawExpr A step (Unary op a) ≡ step (RawExpr-F.Unary op (fold-RawExpr A step a))
  fold-Unary op a = ap (fold-RawExpr A step) (sym (rolls-Unary op a)) ∙ fold-roll-RawExpr A step (RawExpr-F.Unary op a)

  pub fold-Binary : (op : BinOp) (a b : RawExpr) → fold-RawExpr A step (Binary op a b) ≡ step (RawExpr-F.Binary op (fold-RawExpr A step a) (fold-RawExpr A step b))
  fold-Binary op a b = ap (fold-RawExpr A step) (sym (rolls-Binary op a b)) ∙ fold-roll-RawExpr A step (RawExpr-F.Binary op a b)

  pub fold-Call : (f : RawName) (args : List RawExpr) → fold-RawExpr A step (Call f args) ≡ step (RawExpr-F.Call f (map (fold-RawExpr A step) args))
  fold-Call f args = ap (fold-RawExpr A step) (sym (rolls-Call f args)) ∙ fold-roll-RawExpr A step (RawExpr-F.Call f args)

module _ (P : RawExpr → Type 0) (number : (n : ℤ) (w : Width) → P (Number n w)) (name : (x : RawName) → P (Name x)) (unary : (op : UnOp) (a : RawExpr) → P a → P (Unary op a)) (binary : (op : BinOp) (a b : RawExpr) → P a → P b → P (Binary op a b)) (call : (f : RawName) (args : List RawExpr) → P (Call f args)) where
  layer : (y : RawExpr-F ((e : RawExpr) × P e)) → P (roll-RawExpr (map-RawExpr ((e : RawExpr) × P e) RawExpr (λ p. p.0) y))
  layer (RawExpr-F.Number n w) = subst P (sym (rolls-Number n w)) (number n w)
  layer (RawExpr-F.Name x) = subst P (sym (rolls-Name x)) (name x)
  layer (RawExpr-F.Unary op a) = subst P (sym (rolls-Unary op a.0)) (unary op a.0 a.1)
  layer (RawExpr-F.Binary op a b) = subst P (sym (rolls-Binary op a.0 b.0)) (binary op a.0 b.0 a.1 b.1)
  layer (RawExpr-F.Call f args) = subst P (sym (rolls-Call f (map (λ p. p.0) args))) (call f (map (λ p. p.0) args))

  pub by_forms : (e : RawExpr) → P e
  by_forms = ind-RawExpr P (λ x y e. subst (λ z. P (roll-RawExpr z)) e (layer y))
