use Rattle.std.proofs.Common.{◌≡◌, ◌<◌, ◌++◌, ◌∷◌, ◌+◌, ◌-◌, ℕ, List, Some, [], length, subst, sym, ap, ◌∙◌, append_assoc, arith}
use Rattle.std.specs.Prelude.{Contains}
use Rattle.std.proofs.lemmas.List.{length_push}
use Rattle.arg_chain.specs.declared.hop.Hop.{Hop}
use Rattle.arg_chain.specs.Walk.{steps_at, known_at}
use Rattle.arg_chain.specs.Choice.{IsGreedy, IsLeastStep, CanStep}
use Rattle.arg_chain.proofs.Spreading.{known_within}
use Rattle.arg_chain.proofs.Turning.{steps_read}
use Rattle.arg_chain.proofs.least.least_steps.Goals as goal

pub least_step-step-requires-clause-within : goal.least_step-step-requires-clause-within
least_step-step-requires-clause-within c =
    let g = c.args.graph.now in
    let at = c.loop-left.at in
    let within : at < length g = omega (arith, known_within c.args.known.now at c.loop-left.left c.loop-left.invariant.at_known, c.requires.len) in
    let row : steps_at g at ≡ c.deref.result.now = steps_read g at c.index-graph-at.result within c.index-graph-at.is ∙ sym c.deref.ensures.value in
    λ s one.
    let small = c.requires.graph at s (subst (λ (l : List Hop). Contains l s) (sym row) one) in
    omega (arith, small, c.requires.len)

pub least_step-step-requires-clause-can : goal.least_step-step-requires-clause-can
least_step-step-requires-clause-can c =
    let g = c.args.graph.now in
    let at = c.loop-left.at in
    let within : at < length g = omega (arith, known_within c.args.known.now at c.loop-left.left c.loop-left.invariant.at_known, c.requires.len) in
    let row : steps_at g at ≡ c.deref.result.now = steps_read g at c.index-graph-at.result within c.index-graph-at.is ∙ sym c.deref.ensures.value in
    let more : c.loop-left.left ≡ (c.loop-left.left - 1) + 1 = omega arith in
    subst (λ (l : List Hop). CanStep l c.args.known.now (c.loop-left.left - 1)) row (c.requires.can at (c.loop-left.left - 1) (c.loop-left.invariant.at_known ∙ ap Some more))

pub loop-left-preserved : goal.loop-left-preserved
loop-left-preserved c =
    let g = c.args.graph.now in
    let at = c.loop-left.at in
    let within : at < length g = omega (arith, known_within c.args.known.now at c.loop-left.left c.loop-left.invariant.at_known, c.requires.len) in
    let row : steps_at g at ≡ c.deref.result.now = steps_read g at c.index-graph-at.result within c.index-graph-at.is ∙ sym c.deref.ensures.value in
    let known = c.args.known.now in
    let step = c.least_step-step.result in
    let before = c.loop-left.steps.items in
    let items = c.in_ok-push.ensures.items in
    record {
      at_known = c.least_step-step.ensures.near;
      len = omega (arith, ap length items, length_push before step, c.loop-left.invariant.len);
      built = λ rest len greedy.
          let here : known_at known at ≡ Some (length rest + 1) = c.loop-left.invariant.at_known ∙ ap Some (omega (arith, len)) in
          let least : IsLeastStep (steps_at g at) known (length rest) step = subst (λ (n : ℕ). IsLeastStep (steps_at g at) known n step) (sym len) (subst (λ (l : List Hop). IsLeastStep l known (c.loop-left.left - 1) step) (sym row) c.least_step-step.ensures) in
          let whole : IsGreedy g known at (step ∷ rest) = (here, least, greedy) in
          let joined : before ++ (step ∷ rest) ≡ c.push.new.self.items ++ rest = sym (append_assoc before (step ∷ []) rest) ∙ ap (λ (l : List Hop). l ++ rest) (sym items) in
          subst (λ (l : List Hop). IsGreedy g known c.args.root l) joined (c.loop-left.invariant.built (step ∷ rest) (omega (arith, len)) whole);
    }
