use Rattle.std.proofs.Common.{◌≡◌, ◌++◌, drop, map}
use Rattle.arg_graph.specs.declared.vertex.Step.{Step}
use Rattle.abs_stepper.proofs.stepping.push_labels.Given as goal

abbrev pub invariant-loop-step : goal.invariant-loop-step
invariant-loop-step l = l.labels.items ++ map (λ (s : Step). s.label) (drop l.step-index l.steps) ≡ l.fn.labels.items ++ map (λ (s : Step). s.label) l.steps
