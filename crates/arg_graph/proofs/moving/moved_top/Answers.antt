use Rattle.std.proofs.Common.{◌≡◌, None, Some, Option, ap, sym, ◌∙◌}
use Rattle.arg_graph.specs.Following.{target_of}
use Rattle.arg_graph.specs.Graphs.{offered_in}
use Rattle.arg_graph.specs.declared.vertex.Vertex.{Vertex}
use Rattle.arg_graph.proofs.Tops.{moved-last, step_from_other, stepped_to}
use Rattle.arg_graph.proofs.moving.moved_top.Goals as goal

pub returns-in-None : goal.returns-in-None
returns-in-None c =
    let offers = offered_in c.args.graph.now in
    let top = c.args.top.now in
    let none : target_of c.args.label (offers top.vertex) ≡ None = ap (target_of c.args.label) (sym c.out.ensures) ∙ sym c.in-None.ensures in
    sym (moved-last offers c.args.label (step_from_other c.args.label c.in_default.not-Leave) c.args.below.now top ∙ ap (stepped_to c.args.label c.args.below.now top.vertex) none)

pub returns-in_ok-stepped-in-Some : goal.returns-in_ok-stepped-in-Some
returns-in_ok-stepped-in-Some c =
    let offers = offered_in c.args.graph.now in
    let top = c.args.top.now in
    let some : target_of c.args.label (offers top.vertex) ≡ Some c.in-Some.to = ap (target_of c.args.label) (sym c.out.ensures) ∙ sym c.in-Some.ensures in
    ap Some c.in_ok-stepped-in-Some.ensures ∙ sym (moved-last offers c.args.label (step_from_other c.args.label c.in_default.not-Leave) c.args.below.now top ∙ ap (stepped_to c.args.label c.args.below.now top.vertex) some)
