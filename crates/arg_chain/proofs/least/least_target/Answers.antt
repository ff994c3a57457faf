use Rattle.std.proofs.Common.{◌≡◌, ◌+◌, ℕ, List, Option, take, get_or, subst, sym, refl, arith}
use Rattle.std.proofs.lemmas.List.{take_all, get_or_default}
use Rattle.std.proofs.lemmas.List.Elements.{Contains-get_or}
use Rattle.arg_chain.specs.declared.hop.Hop.{Hop}
use Rattle.arg_chain.specs.Choice.{IsLeastOf, IsTarget}
use Rattle.arg_chain.proofs.Choosing.{least_more, targets_more}
use Rattle.arg_chain.proofs.least.least_target.Goals as goal

pub bounds-known-step : goal.bounds-known-step
bounds-known-step c = c.requires.within _ (Contains-get_or c.args.steps.now c.loop-step.step-index (record { edge = 0; to = 0 }) c.loop-step-test.true)

pub loop-step-preserved : goal.loop-step-preserved
loop-step-preserved c =
    let steps = c.args.steps.now in
    let known = c.args.known.now in
    let i = c.loop-step.step-index in
    let s : Hop = get_or steps i (record { edge = 0; to = 0 }) in
    let is : s ≡ get_or steps i s = get_or_default steps i (record { edge = 0; to = 0 }) s c.loop-step-test.true in
    subst (λ (o : Option ℕ). IsLeastOf (IsTarget (take (i + 1) steps) known c.args.d) o) (sym c.improved-best.ensures)
    (least_more (IsTarget (take i steps) known c.args.d) (IsTarget (take (i + 1) steps) known c.args.d) c.loop-step.best s.to c.is_at.result c.loop-step.invariant (targets_more steps i s c.loop-step-test.true is known c.args.d c.is_at.result c.is_at.ensures))

pub unreachable-requires : goal.unreachable-requires
unreachable-requires c =
    let all : take c.loop-step.step-index c.args.steps.now ≡ c.args.steps.now = take_all c.loop-step.step-index c.args.steps.now c.loop-step-test.false in
    let least = subst (λ (l : List Hop). IsLeastOf (IsTarget l c.args.known.now c.args.d) c.loop-step.best) all c.loop-step.invariant in
    let can = c.requires.can in
    subst (λ (o : Option ℕ). IsLeastOf (IsTarget c.args.steps.now c.args.known.now c.args.d) o) c.in-None.is least can.0.to (can.0, can.1, refl, can.2)

pub returns : goal.returns
returns c =
    let all : take c.loop-step.step-index c.args.steps.now ≡ c.args.steps.now = take_all c.loop-step.step-index c.args.steps.now c.loop-step-test.false in
    let least = subst (λ (l : List Hop). IsLeastOf (IsTarget l c.args.known.now c.args.d) c.loop-step.best) all c.loop-step.invariant in
    subst (λ (o : Option ℕ). IsLeastOf (IsTarget c.args.steps.now c.args.known.now c.args.d) o) c.in-Some.is least

pub offset_bounds-known-step : goal.offset_bounds-known-step
offset_bounds-known-step c = (let low = c.requires.within _ (Contains-get_or c.args.steps.now c.loop-step.step-index (record { edge = 0; to = 0 }) c.loop-step-test.true) in omega (arith, low))
