-- Whether a guard joins two states on its way, so that it needs memory for a second one.
use Rattle.std.specs.Prelude.{Bool, true, false, not, ◌||◌}
use Rattle.gob_tree.specs.declared.expr.BinOp.{BinOp}
use Rattle.gob_tree.specs.declared.expr.BinOp.TheVariants.{And, Or}
use Rattle.gob_tree.specs.declared.expr.UnOp.TheVariants.{Not}
use Rattle.gob_tree.specs.declared.expr.Expr.{Expr}
use Rattle.gob_tree.specs.declared.expr.Expr.TheOpen.{Expr-F}
use Rattle.gob_tree.specs.declared.expr.Expr.TheFolds.{fold-Expr}

abbrev pub splits_binary : BinOp → (Bool → Bool) → (Bool → Bool) → Bool → Bool
splits_binary And a b true = a true || b true
splits_binary And a b false = true
splits_binary Or a b true = true
splits_binary Or a b false = a false || b false
splits_binary op a b wanted = false

abbrev pub splits_step : Expr-F (Bool → Bool) → Bool → Bool
splits_step (Expr-F.Unary Not a) wanted = a (not wanted)
splits_step (Expr-F.Binary op a b) wanted = splits_binary op a b wanted
splits_step other wanted = false

-- `||` that is to be true or `&&` that is to be false stands where both sides count
abbrev pub splits : Expr → Bool → Bool
splits = fold-Expr (Bool → Bool) splits_step
