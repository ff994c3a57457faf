use Rattle.std.proofs.Common.{◌≡◌, ◌⊎◌, ◌↔◌, ℕ, List, take, get_or, subst, ◌∙◌, refl, arith}
use Rattle.std.specs.Prelude.{Contains}
use Rattle.std.proofs.lemmas.List.{take_all, get_or_default}
use Rattle.std.proofs.lemmas.List.Elements.{Contains-get_or}
use Rattle.arg_chain.specs.declared.hop.Hop.{Hop}
use Rattle.arg_chain.specs.Walk.{before_at, LeadsTo}
use Rattle.arg_chain.proofs.Turning.{LeadsTo-more, joined_by}
use Rattle.arg_chain.proofs.turned.add_each.Goals as goal

pub add-requires : goal.add-requires
add-requires c =
    let steps = c.args.steps.now in
    let s : Hop = get_or steps c.loop-step.step-index (record { edge = 0; to = 0 }) in
    let one : Contains steps s = Contains-get_or steps c.loop-step.step-index (record { edge = 0; to = 0 }) c.loop-step-test.true in
    omega (arith, c.requires s.to (s, one, refl), c.loop-step.invariant.len)

pub loop-step-preserved : goal.loop-step-preserved
loop-step-preserved c =
    let steps = c.args.steps.now in
    let i = c.loop-step.step-index in
    let s : Hop = get_or steps i (record { edge = 0; to = 0 }) in
    let is : s ≡ get_or steps i s = get_or_default steps i (record { edge = 0; to = 0 }) s c.loop-step-test.true in
    record {
      len = c.in_ok-add.ensures.len ∙ c.loop-step.invariant.len;
      members = λ w x. joined_by (c.in_ok-add.ensures.members w x) (c.loop-step.invariant.members w x) (LeadsTo-more steps i s c.loop-step-test.true is w);
    }

pub returns-clause-members : goal.returns-clause-members
returns-clause-members c =
    let all : take c.loop-step.step-index c.args.steps.now ≡ c.args.steps.now = take_all c.loop-step.step-index c.args.steps.now c.loop-step-test.false in
    subst (λ (l : List Hop). (w x : ℕ) → Contains (before_at c.loop-step.rows.items w) x ↔ (Contains (before_at c.args.rows.now.items w) x ⊎ (LeadsTo l w × (x ≡ c.args.u)))) all c.loop-step.invariant.members
