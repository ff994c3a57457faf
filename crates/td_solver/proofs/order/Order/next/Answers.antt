use Rattle.std.proofs.Common.{sym, ◌∙◌}
use Rattle.td_solver.proofs.Going.{empty_without_first}
use Rattle.td_solver.proofs.order.Order.next.Goals as goal

pub returns-clause-none : goal.returns-clause-none
returns-clause-none c = λ is. empty_without_first c.args.dirty.now (sym c.first.ensures.value ∙ is)
