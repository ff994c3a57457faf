use Rattle.std.proofs.Common.{◌≡◌, nat_eq, true, false, cond, None, Option, subst, sym, ap, ◌∙◌, arith}
use Rattle.std.specs.Prelude.{IfOk}
use Rattle.std.proofs.lemmas.Bool.Decides.{nat_tests}
use Rattle.arg_graph.specs.Following.{StackValue, gone_on, left}
use Rattle.arg_graph.specs.Graphs.{offered_in}
use Rattle.arg_graph.proofs.Tops.{left-last}
use Rattle.arg_graph.proofs.moving.left.Goals as goal

pub returns-then-top-eq1 : goal.returns-then-top-eq1
returns-then-top-eq1 c =
    let offers = offered_in c.args.graph.now in
    let at : nat_eq c.args.top.now.vertex.node 1 ≡ true = grind (arith, nat_tests) in
    subst (λ (z : Option StackValue). IfOk c.gone_on.result (λ o. o ≡ z)) (sym (left-last offers c.args.below.now c.args.top.now ∙ ap (λ b. cond b (gone_on offers c.args.below.now) None) at)) c.gone_on.ensures

pub returns-else-top-eq1 : goal.returns-else-top-eq1
returns-else-top-eq1 c =
    let offers = offered_in c.args.graph.now in
    let at : nat_eq c.args.top.now.vertex.node 1 ≡ false = grind (arith, nat_tests) in
    sym (left-last offers c.args.below.now c.args.top.now ∙ ap (λ b. cond b (gone_on offers c.args.below.now) None) at)
