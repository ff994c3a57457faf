use Rattle.std.proofs.Common.{◌≡◌, ◌∙◌, ◌++◌, None, Option, sym, ap, append-nil}
use Rattle.std.specs.Prelude.{slice_get}
use Rattle.std.proofs.lemmas.Option.{slice_get_past}
use Rattle.arg_graph.specs.declared.vertex.Vertex.{Vertex}
use Rattle.arg_chain.specs.Calls.{frame_for}
use Rattle.arg_chain.proofs.stacking.push_frame.Goals as goal

pub returns-in-None : goal.returns-in-None
returns-in-None c =
    let none : slice_get c.args.vertices.now c.args.place ≡ None = slice_get_past c.args.vertices.now c.args.place c.in-None.ensures.lookup.3 in
    sym (ap (λ (o : Option Vertex). c.args.stack.now ++ frame_for o c.args.call) none ∙ append-nil c.args.stack.now)
