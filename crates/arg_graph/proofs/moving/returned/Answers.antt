use Rattle.std.proofs.Common.{◌≡◌, ◌-◌, Option, length, take, subst, sym}
use Rattle.std.specs.Prelude.{IfOk}
use Rattle.arg_graph.specs.Following.{StackValue, gone_on}
use Rattle.arg_graph.specs.Graphs.{offered_in}
use Rattle.arg_graph.proofs.Tops.{returned-split}
use Rattle.arg_graph.proofs.moving.returned.Goals as goal

pub returns-in-len1-up : goal.returns-in-len1-up
returns-in-len1-up c = subst (λ (z : Option StackValue). IfOk c.gone_on.result (λ o. o ≡ z)) (sym (returned-split (offered_in c.args.graph.now) c.args.stack.now c.in-len1-up.len_at_least)) c.gone_on.ensures
