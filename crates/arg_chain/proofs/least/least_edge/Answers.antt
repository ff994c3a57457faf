use Rattle.std.proofs.Common.{◌≡◌, ◌+◌, ℕ, List, Option, take, get_or, nat_eq, subst, sym, refl}
use Rattle.std.proofs.lemmas.List.{take_all, get_or_default}
use Rattle.arg_chain.specs.declared.hop.Hop.{Hop}
use Rattle.arg_chain.specs.Choice.{IsLeastOf, IsEdgeTo}
use Rattle.arg_chain.proofs.Choosing.{least_more, edges_more, same_test}
use Rattle.arg_chain.proofs.least.least_edge.Goals as goal

pub loop-step-preserved : goal.loop-step-preserved
loop-step-preserved c =
    let steps = c.args.steps.now in
    let i = c.loop-step.step-index in
    let s : Hop = get_or steps i (record { edge = 0; to = 0 }) in
    let is : s ≡ get_or steps i s = get_or_default steps i (record { edge = 0; to = 0 }) s c.loop-step-test.true in
    subst (λ (o : Option ℕ). IsLeastOf (IsEdgeTo (take (i + 1) steps) c.args.to) o) (sym c.improved_edge-best.ensures)
    (least_more (IsEdgeTo (take i steps) c.args.to) (IsEdgeTo (take (i + 1) steps) c.args.to) c.loop-step.best s.edge (nat_eq s.to c.args.to) c.loop-step.invariant (edges_more steps i s c.loop-step-test.true is c.args.to (nat_eq s.to c.args.to) (same_test s.to c.args.to)))

pub unreachable-requires : goal.unreachable-requires
unreachable-requires c =
    let all : take c.loop-step.step-index c.args.steps.now ≡ c.args.steps.now = take_all c.loop-step.step-index c.args.steps.now c.loop-step-test.false in
    let least = subst (λ (l : List Hop). IsLeastOf (IsEdgeTo l c.args.to) c.loop-step.best) all c.loop-step.invariant in
    let can = c.requires in
    subst (λ (o : Option ℕ). IsLeastOf (IsEdgeTo c.args.steps.now c.args.to) o) c.in-None.is least can.0.edge (can.0, can.1, can.2, refl)

pub returns : goal.returns
returns c =
    let all : take c.loop-step.step-index c.args.steps.now ≡ c.args.steps.now = take_all c.loop-step.step-index c.args.steps.now c.loop-step-test.false in
    let least = subst (λ (l : List Hop). IsLeastOf (IsEdgeTo l c.args.to) c.loop-step.best) all c.loop-step.invariant in
    subst (λ (o : Option ℕ). IsLeastOf (IsEdgeTo c.args.steps.now c.args.to) o) c.in-Some.is least
