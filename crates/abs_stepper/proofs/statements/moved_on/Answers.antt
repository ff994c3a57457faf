use Rattle.std.proofs.Common.{◌≡◌, ◌<◌, ◌∙◌, Bool, true, false, List, Some, length, sym, ap, arith, rules}
use Rattle.std.specs.Prelude.{IsSome}
use Rattle.arg_graph.specs.Following.{moved}
use Rattle.arg_graph.specs.Graphs.{offered_in}
use Rattle.abs_stepper.specs.declared.position.Thread.{Thread}
use Rattle.abs_stepper.specs.Positions.{IsPosition, stack_of}
use Rattle.abs_stepper.specs.Statements.{top_in}
use Rattle.abs_stepper.specs.Stepping.{IsStepped}
use Rattle.abs_stepper.specs.Ways.{chosen, is_inside}
use Rattle.abs_stepper.proofs.Choosing.{chosen_moves}
use Rattle.abs_stepper.proofs.Going.{ends_outside, going_first, going_further, named_top, position_after, stepped_by, taken_by_stack, top_by_stack}
use Rattle.abs_stepper.proofs.Marks.{fewer_left, fresh_within, inside_tests}
use Rattle.abs_stepper.proofs.statements.moved_on.Goals as goal

pub top_vertex-began-requires : goal.top_vertex-began-requires
top_vertex-began-requires c =
    let stack = c.in-Some.stack.now in
    let at : stack_of c.args.at.now c.args.thread ≡ Some stack = ap (λ (l : List Thread). stack_of l c.args.thread) (sym c.threads.ensures.value) ∙ sym c.in-Some.ensures in
    named_top c.args.at.now c.threads.ensures.position c.args.thread stack at

pub moved_together-requires-clause-offered : goal.moved_together-requires-clause-offered
moved_together-requires-clause-offered c =
    let g = c.args.graph.now in
    let stack = c.in-Some.stack.now in
    let at : stack_of c.args.at.now c.args.thread ≡ Some stack = ap (λ (l : List Thread). stack_of l c.args.thread) (sym c.threads.ensures.value) ∙ sym c.in-Some.ensures in
    chosen_moves c.args.program.now c.requires.graph.0 g c.requires.graph.1 c.args.way stack c.args.label (sym (taken_by_stack (chosen c.args.way (offered_in g)) c.args.at.now c.args.thread stack at) ∙ c.requires.first)

pub steps-init : goal.steps-init
steps-init c =
    let p = c.args.program.now in
    let t = c.requires.graph.0 in
    let g = c.args.graph.now in
    let old = c.args.at.now in
    let id = c.args.thread in
    let stack = c.in-Some.stack.now in
    let at : stack_of old id ≡ Some stack = ap (λ (l : List Thread). stack_of l id) (sym c.threads.ensures.value) ∙ sym c.in-Some.ensures in
    let some : IsSome (moved (offered_in g) c.args.label stack) = chosen_moves p t g c.requires.graph.1 c.args.way stack c.args.label (sym (taken_by_stack (chosen c.args.way (offered_in g)) old id stack at) ∙ c.requires.first) in
    let top : top_in old id ≡ Some c.top_vertex-began.result = top_by_stack old id stack at ∙ c.top_vertex-began.ensures in
    let position : IsPosition c.in_ok-now.now = position_after p t g c.requires.graph.1 c.requires.formed c.args.way id c.args.label old c.in_ok-now.now stack c.threads.ensures.position at some c.in_ok-now.ensures in
    let stepped : IsStepped (offered_in g) c.args.label id old c.in_ok-now.now = stepped_by (offered_in g) c.args.label id stack old c.in_ok-now.now at some c.in_ok-now.ensures in
    going_first p t g c.requires.graph.1 c.requires.formed c.args.way id c.top_vertex-began.result old c.args.label c.in_ok-now.now c.in_ok-been.been.items top c.requires.first position stepped c.in_ok-been.ensures

pub returns-then-not-is_inside : goal.returns-then-not-is_inside
returns-then-not-is_inside c =
    let p = c.args.program.now in
    let id = c.args.thread in
    let began = c.top_vertex-began.result in
    let here = c.top_vertex-top.result in
    let stack = c.in-Some-stack_of.stack.now in
    let at : stack_of c.steps.now id ≡ Some stack = ap (λ (l : List Thread). stack_of l id) (sym c.threads-in-steps.ensures.value) ∙ sym c.in-Some-stack_of.ensures in
    let top : top_in c.steps.now id ≡ Some here = top_by_stack c.steps.now id stack at ∙ c.top_vertex-top.ensures in
    let same : c.is_inside.result ≡ is_inside p began c.steps.been.items c.steps.last here = c.is_inside.ensures ∙ ap (λ (m : List Bool). is_inside p began m c.steps.last here) c.as_slice.ensures.value in
    let not : c.is_inside.result ≡ false = search rules in
    ends_outside p c.requires.graph.0 c.args.graph.now c.requires.graph.1 c.requires.formed c.args.way id began c.args.at.now c.steps.been.items c.steps.last c.steps.now c.steps.invariant here top (sym same ∙ not)

pub moved_together-requires-in-steps-clause-offered : goal.moved_together-requires-in-steps-clause-offered
moved_together-requires-in-steps-clause-offered c =
    let g = c.args.graph.now in
    let stack = c.in-Some-stack_of.stack.now in
    let takes : chosen c.args.way (offered_in g) stack ≡ Some c.in-Some-2.next = sym c.in_ok-next.ensures ∙ c.in-Some-2.is in
    chosen_moves c.args.program.now c.requires.graph.0 g c.requires.graph.1 c.args.way stack c.in-Some-2.next takes

pub index_mut-requires : goal.index_mut-requires
index_mut-requires c =
    let p = c.args.program.now in
    let began = c.top_vertex-began.result in
    let here = c.top_vertex-top.result in
    let same : c.is_inside.result ≡ is_inside p began c.steps.been.items c.steps.last here = c.is_inside.ensures ∙ ap (λ (m : List Bool). is_inside p began m c.steps.last here) c.as_slice.ensures.value in
    let is : c.is_inside.result ≡ true = search rules in
    let within : here.node < length c.steps.been.items = fresh_within c.steps.been.items here.node (inside_tests p began c.steps.been.items c.steps.last here (sym same ∙ is)).fresh in
    omega (arith, within, c.steps.been.ok.0)

pub steps-smaller : goal.steps-smaller
steps-smaller c =
    let p = c.args.program.now in
    let began = c.top_vertex-began.result in
    let here = c.top_vertex-top.result in
    let same : c.is_inside.result ≡ is_inside p began c.steps.been.items c.steps.last here = c.is_inside.ensures ∙ ap (λ (m : List Bool). is_inside p began m c.steps.last here) c.as_slice.ensures.value in
    let is : c.is_inside.result ≡ true = search rules in
    fewer_left c.steps.been.items here.node (inside_tests p began c.steps.been.items c.steps.last here (sym same ∙ is)).fresh

pub steps-preserved : goal.steps-preserved
steps-preserved c =
    let p = c.args.program.now in
    let t = c.requires.graph.0 in
    let g = c.args.graph.now in
    let id = c.args.thread in
    let began = c.top_vertex-began.result in
    let here = c.top_vertex-top.result in
    let next = c.in-Some-2.next in
    let new = c.in_ok-new.new in
    let stack = c.in-Some-stack_of.stack.now in
    let at : stack_of c.steps.now id ≡ Some stack = ap (λ (l : List Thread). stack_of l id) (sym c.threads-in-steps.ensures.value) ∙ sym c.in-Some-stack_of.ensures in
    let top : top_in c.steps.now id ≡ Some here = top_by_stack c.steps.now id stack at ∙ c.top_vertex-top.ensures in
    let same : c.is_inside.result ≡ is_inside p began c.steps.been.items c.steps.last here = c.is_inside.ensures ∙ ap (λ (m : List Bool). is_inside p began m c.steps.last here) c.as_slice.ensures.value in
    let is : c.is_inside.result ≡ true = search rules in
    let takes : chosen c.args.way (offered_in g) stack ≡ Some next = sym c.in_ok-next.ensures ∙ c.in-Some-2.is in
    let some : IsSome (moved (offered_in g) next stack) = chosen_moves p t g c.requires.graph.1 c.args.way stack next takes in
    let position : IsPosition new = position_after p t g c.requires.graph.1 c.requires.formed c.args.way id next c.steps.now new stack c.threads-in-steps.ensures.position at some c.in_ok-new.ensures in
    let stepped : IsStepped (offered_in g) next id c.steps.now new = stepped_by (offered_in g) next id stack c.steps.now new at some c.in_ok-new.ensures in
    going_further p t g c.requires.graph.1 c.requires.formed c.args.way id began c.args.at.now c.steps.been.items c.steps.last c.steps.now c.steps.invariant here top (sym same ∙ is) next new
    (taken_by_stack (chosen c.args.way (offered_in g)) c.steps.now id stack at ∙ takes) position stepped
