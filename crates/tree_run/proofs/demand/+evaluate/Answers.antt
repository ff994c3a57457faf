use Rattle.std.proofs.Common.{rules, ◌≡◌, sym, ap, ◌∙◌, subst}
use Rattle.gob_tree.specs.declared.expr.Expr.{Expr}
use Rattle.tree_run.specs.Answering.{Answers}
use Rattle.tree_run.proofs.Calling.{call_answers}
use Rattle.tree_run.proofs.demand.+evaluate.Goals as goal

pub evaluate-returns-in-Ok-values : goal.evaluate-returns-in-Ok-values
evaluate-returns-in-Ok-values n c =
    subst (λ (e : Expr). Answers c.next-in-Ok-values.result e c.args.slots.now c.args.values.now c.args.ins.now) (sym c.in-Call.is)
    (call_answers c.next-in-Ok-values.result c.in_ok-values-in-Call.field-0 c.in-Call.f c.in-Call.w c.in-Call.args c.args.slots.now c.args.values.now c.args.ins.now c.in-Ok-values.numbers
    (search rules) (search rules) c.next-in-Ok-values.ensures.value c.next-in-Ok-values.ensures.rest c.next-in-Ok-values.ensures.width)
