use Rattle.std.proofs.Common.{ap, sym, ◌∙◌}
use Rattle.arg_graph.specs.Texts as spec
use Rattle.arg_graph.proofs.expressions.closing.Goals as goal

pub returns-then-has_operator : goal.returns-then-has_operator
returns-then-has_operator c = λ names. ap spec.closing (sym c.if-has_operator.true ∙ c.has_operator.ensures names)

pub returns-else-has_operator : goal.returns-else-has_operator
returns-else-has_operator c = λ names. ap spec.closing (sym c.if-has_operator.false ∙ c.has_operator.ensures names)
