use Rattle.std.proofs.Common.{◌≡◌, ◌∙◌, sym, true, false, rules}
use Rattle.arg_graph.specs.contracts.vertex.LabelPartialEq.TheImpl.{ghosts as labels}
use Rattle.arg_graph.proofs.Targets.{target_first, target_next}
use Rattle.arg_graph.proofs.graph.target.Goals as goal

pub returns-then-eq : goal.returns-then-eq
returns-then-eq c =
    let s = c.step-item.result in
    let test : labels.eq s.label c.args.label ≡ true = search rules in
    sym (target_first c.args.label c.args.steps.now c.loop-step.step-index s c.loop-step-test.true c.step-item.is test) ∙ c.loop-step.invariant

pub loop-step-preserved : goal.loop-step-preserved
loop-step-preserved c =
    let s = c.step-item.result in
    let test : labels.eq s.label c.args.label ≡ false = search rules in
    sym (target_next c.args.label c.args.steps.now c.loop-step.step-index s c.loop-step-test.true c.step-item.is test) ∙ c.loop-step.invariant
