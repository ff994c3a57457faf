use Rattle.std.proofs.Common.{◌∙◌, ◌++◌, ◌∷◌, [], List, sym, ap, subst}
use Rattle.std.specs.Prelude.{Contains, if◌then◌else◌}
use Rattle.std.proofs.lemmas.List.Elements.{Contains-get_or}
use Rattle.arg_graph.specs.Vertices.{is_at}
use Rattle.arg_graph.specs.declared.vertex.Vertex.{Vertex}
use Rattle.arg_graph.proofs.NodeRows.{at_node_next}
use Rattle.arg_graph.proofs.graph.by_node.Goals as goal

pub add-requires : goal.add-requires
add-requires c =
    let vs = c.args.vertices.now in
    let v = c.v-item.result in
    c.loop-v.invariant.room v.func v.node (c.requires v (subst (λ (x : Vertex). Contains vs x) (sym c.v-item.is) (Contains-get_or vs c.loop-v.v-index v c.loop-v-test.true)))

pub loop-v-preserved : goal.loop-v-preserved
loop-v-preserved c =
    let vs = c.args.vertices.now in
    let v = c.v-item.result in
    record {
      at = λ f node.
          c.in_ok-add.ensures.at f node ∙ ap (λ (l : List Vertex). l ++ (if is_at f node v then v ∷ [] else [])) (c.loop-v.invariant.at f node)
          ∙ sym (at_node_next f node vs c.loop-v.v-index v c.loop-v-test.true c.v-item.is);
      room = λ f node inside. c.in_ok-add.ensures.room f node (c.loop-v.invariant.room f node inside);
    }
