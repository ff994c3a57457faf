use Rattle.std.proofs.Common.{◌∙◌, List, sym, ap, subst}
use Rattle.std.specs.Prelude.{filter_map}
use Rattle.arg_graph.specs.Graphs.{offered_in}
use Rattle.abs_stepper.specs.declared.position.Thread.{Thread}
use Rattle.abs_stepper.specs.Positions.{IsPosition}
use Rattle.abs_stepper.specs.Stepping.{returned_along}
use Rattle.abs_stepper.proofs.Keeping.{out_keeps}
use Rattle.abs_stepper.proofs.stepping.returned_together.Goals as goal

pub of-requires : goal.of-requires
of-requires c =
    let g = c.args.graph.now in
    let named = c.args.named.now in
    let graph = c.requires.graph in
    let there = c.requires.named in
    let kept = out_keeps graph.0 graph.1 g graph.2 c.args.at.now there.0 named c.threads.ensures.position there.1 c.requires.offered in
    subst (λ (l : List Thread). IsPosition l) (sym (c.in_ok-threads.ensures ∙ ap (λ (l : List Thread). filter_map (returned_along (offered_in g) named) l) c.threads.ensures.value)) kept
