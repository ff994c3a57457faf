-- Induction over an expression as it is written, by the parts of each form.
use Rattle.std.proofs.Common.{sym, subst, ℤ, List, [], ◌∷◌, map}
use Rattle.std.specs.List.{AllByRecursion}
use Rattle.gob_tree.specs.declared.expr.Width.{Width}
use Rattle.gob_tree.specs.declared.expr.UnOp.{UnOp}
use Rattle.gob_tree.specs.declared.expr.BinOp.{BinOp}
use Rattle.c_parse.specs.declared.raw.expr.RawName.{RawName}
use Rattle.c_parse.specs.declared.raw.expr.RawExpr.{RawExpr, Number, Name, Unary, Binary, Call, roll-RawExpr, map-RawExpr, ind-RawExpr}
use Rattle.c_parse.specs.declared.raw.expr.RawExpr.TheOpen.{RawExpr-F}
use Rattle.c_parse.specs.declared.raw.expr.RawExpr.TheVariants.{rolls-Number, rolls-Name, rolls-Unary, rolls-Binary, rolls-Call}

module _ (P : RawExpr → Type 0) where
  each_part : (parts : List ((e : RawExpr) × P e)) → AllByRecursion P (map (λ p. p.0) parts)
  each_part [] = tt
  each_part (p ∷ ps) = (p.1, each_part ps)

  module _ (number : (n : ℤ) (w : Width) → P (Number n w)) (name : (x : RawName) → P (Name x)) (unary : (op : UnOp) (a : RawExpr) → P a → P (Unary op a)) (binary : (op : BinOp) (a b : RawExpr) → P a → P b → P (Binary op a b)) (call : (f : RawName) (args : List RawExpr) → AllByRecursion P args → P (Call f args)) where
    layer : (y : RawExpr-F ((e : RawExpr) × P e)) → P (roll-RawExpr (map-RawExpr ((e : RawExpr) × P e) RawExpr (λ p. p.0) y))
    layer (RawExpr-F.Number n w) = subst P (sym (rolls-Number n w)) (number n w)
    layer (RawExpr-F.Name x) = subst P (sym (rolls-Name x)) (name x)
    layer (RawExpr-F.Unary op a) = subst P (sym (rolls-Unary op a.0)) (unary op a.0 a.1)
    layer (RawExpr-F.Binary op a b) = subst P (sym (rolls-Binary op a.0 b.0)) (binary op a.0 b.0 a.1 b.1)
    layer (RawExpr-F.Call f args) = subst P (sym (rolls-Call f (map (λ p. p.0) args))) (call f (map (λ p. p.0) args) (each_part args))

    pub by_forms : (e : RawExpr) → P e
    by_forms = ind-RawExpr P (λ x y e. subst (λ z. P (roll-RawExpr z)) e (layer y))
