-- Texts that are put together of pieces.
use Rattle.std.proofs.Common.{◌≡◌, ℕ, List, ◌++◌, append_assoc, ap}
use Rattle.gob_tree.specs.declared.expr.BinOp.{BinOp}
use Rattle.gob_tree.specs.declared.expr.Expr.{Expr, Binary}
use Rattle.gob_tree.proofs.Folds.{fold-Binary}
use Rattle.arg_graph.specs.Texts.{Shown, expr_text, operand_text, operator_text, shown, shown_step}

-- what is added piece by piece is added as a whole
pub seven_pieces : (t0 t1 t2 t3 t4 t5 t6 t7 a b c d e f g : List ℕ) → t1 ≡ t0 ++ a → t2 ≡ t1 ++ b → t3 ≡ t2 ++ c → t4 ≡ t3 ++ d → t5 ≡ t4 ++ e → t6 ≡ t5 ++ f → t7 ≡ t6 ++ g
    → t7 ≡ t0 ++ ((a ++ b ++ c) ++ d ++ (e ++ f ++ g))
seven_pieces t0 t1 t2 t3 t4 t5 t6 t7 a b c d e f g i1 i2 i3 i4 i5 i6 i7 = rw (i7, i6, i5, i4, i3, i2, i1) (simp append_assoc)

pub binary_text : (names : List (List ℕ)) (op : BinOp) (a b : Expr) → expr_text names (Binary op a b) ≡ operand_text (shown names a) ++ operator_text op ++ operand_text (shown names b)
binary_text names op a b = ap (λ (s : Shown). s.text) (fold-Binary Shown (shown_step names) op a b)
