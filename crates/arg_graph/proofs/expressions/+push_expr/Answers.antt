use Rattle.std.proofs.Common.{◌≡◌, ◌++◌, ℕ, List, ap, sym, ◌∙◌}
use Rattle.gob_tree.specs.declared.expr.Expr.{Expr}
use Rattle.arg_graph.specs.Texts as spec
use Rattle.arg_graph.proofs.Joined.{binary_text, seven_pieces}
use Rattle.arg_graph.proofs.expressions.+push_expr.Goals as goal

pub returns-in_ok-push_bytes-in-Binary-5 : goal.returns-in_ok-push_bytes-in-Binary-5
returns-in_ok-push_bytes-in-Binary-5 t c =
    let names = c.args.names.now in
    let l = c.get-left.result.now in
    let r = c.get-right.result.now in
    let left = spec.shown names l in
    let right = spec.shown names r in
    let text0 = c.args.out.now.items in
    let text2 = c.push_expr-in-Binary.new.out.items in
    let text4 = c.push_bytes-in-Binary-3.new.out.items in
    let text6 = c.push_expr-in-Binary-2.new.out.items in
    let is : spec.expr_text names c.args.e.now ≡ spec.operand_text left ++ spec.operator_text c.in-Binary.op ++ spec.operand_text right =
    ap (spec.expr_text names) c.in-Binary.is ∙ binary_text names c.in-Binary.op c.in-Binary.a c.in-Binary.b
    ∙ ap (λ (x : Expr). spec.operand_text (spec.shown names x) ++ spec.operator_text c.in-Binary.op ++ spec.operand_text (spec.shown names c.in-Binary.b)) (sym c.get-left.ensures)
    ∙ ap (λ (x : Expr). spec.operand_text left ++ spec.operator_text c.in-Binary.op ++ spec.operand_text (spec.shown names x)) (sym c.get-right.ensures) in
    seven_pieces text0 c.push_bytes-in-Binary.new.out.items text2 c.push_bytes-in-Binary-2.new.out.items text4 c.push_bytes-in-Binary-4.new.out.items text6 c.push_bytes-in-Binary-5.new.out.items
    (spec.opening left.compound) left.text (spec.closing left.compound) (spec.operator_text c.in-Binary.op) (spec.opening right.compound) right.text (spec.closing right.compound)
    (c.in_ok-push_bytes-in-Binary.ensures ∙ ap (λ (x : List ℕ). text0 ++ x) (c.opening.ensures names))
    c.in_ok-push_expr-in-Binary.ensures
    (c.in_ok-push_bytes-in-Binary-2.ensures ∙ ap (λ (x : List ℕ). text2 ++ x) (c.closing.ensures names))
    (c.in_ok-push_bytes-in-Binary-3.ensures ∙ ap (λ (x : List ℕ). c.push_bytes-in-Binary-2.new.out.items ++ x) c.operator.ensures)
    (c.in_ok-push_bytes-in-Binary-4.ensures ∙ ap (λ (x : List ℕ). text4 ++ x) (c.opening-in-Binary.ensures names))
    c.in_ok-push_expr-in-Binary-2.ensures
    (c.in_ok-push_bytes-in-Binary-5.ensures ∙ ap (λ (x : List ℕ). text6 ++ x) (c.closing-in-Binary.ensures names))
    ∙ ap (λ (x : List ℕ). text0 ++ x) (sym is)
