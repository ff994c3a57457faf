-- An operator splits a state where its right operand does.
use Rattle.std.proofs.Common.{◌≡◌, ◌∙◌, refl, ap, Bool, true, false, ◌||◌}
use Rattle.gob_tree.specs.declared.expr.BinOp.{BinOp}
use Rattle.gob_tree.specs.declared.expr.BinOp.TheVariants.{And, Or}
use Rattle.gob_tree.specs.declared.expr.Expr.{Expr, Binary}
use Rattle.gob_tree.proofs.Folds.{fold-Binary}
use Rattle.state_dom.specs.Splits.{splits, splits_step, splits_binary}

either_right : (a b : Bool) → b ≡ true → (a || b) ≡ true
either_right true b e = refl
either_right false b e = e

of_both : (e a b : Expr) (op : BinOp) (wanted : Bool) → e ≡ Binary op a b → splits e wanted ≡ splits_binary op (splits a) (splits b) wanted
of_both e a b op wanted is = ap (λ (z : Expr). splits z wanted) is ∙ ap (λ (f : Bool → Bool). f wanted) (fold-Binary (Bool → Bool) splits_step op a b)

pub splits-and_right : (e a b : Expr) (op : BinOp) (wanted : Bool) → e ≡ Binary op a b → op ≡ And → wanted ≡ true → splits b true ≡ true → splits e wanted ≡ true
splits-and_right e a b op wanted is and true_is right =
    of_both e a b op wanted is ∙ ap (λ (o : BinOp). splits_binary o (splits a) (splits b) wanted) and ∙ ap (splits_binary And (splits a) (splits b)) true_is ∙ either_right (splits a true) (splits b true) right

pub splits-or_right : (e a b : Expr) (op : BinOp) (wanted : Bool) → e ≡ Binary op a b → op ≡ Or → wanted ≡ false → splits b false ≡ true → splits e wanted ≡ true
splits-or_right e a b op wanted is or false_is right =
    of_both e a b op wanted is ∙ ap (λ (o : BinOp). splits_binary o (splits a) (splits b) wanted) or ∙ ap (splits_binary Or (splits a) (splits b)) false_is ∙ either_right (splits a false) (splits b false) right
