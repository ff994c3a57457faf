use Rattle.std.proofs.Common.{◌≡◌, ◌∙◌, inl, inr, Some, length, refl, sym, ap, true, false, true≢false, rules}
use Rattle.std.proofs.lemmas.Option.{slice_get_read}
use Rattle.constraint_sys.proofs.Ordered.{Contains-take_all, Contains-take_more}
use Rattle.arg_graph.specs.Graphs.{vertex_eq}
use Rattle.arg_graph.proofs.VertexLemmas.{vertex_eq-refl, vertex_eq-same}
use Rattle.arg_chain.proofs.calls.place.Goals as goal

pub returns-then-eq-clause-some : goal.returns-then-eq-clause-some
returns-then-eq-clause-some c =
    let vs = c.args.vertices.now in
    let w = c.index-vertices-i.result in
    let test : vertex_eq w c.args.v.now ≡ true = search rules in
    slice_get_read vs (length vs) c.loop-i.i w refl c.loop-i-test.true c.index-vertices-i.is ∙ ap Some (vertex_eq-same w c.args.v.now test)

pub loop-i-preserved : goal.loop-i-preserved
loop-i-preserved c = λ one.
    let vs = c.args.vertices.now in
    let w = c.index-vertices-i.result in
    let test : vertex_eq w c.args.v.now ≡ false = search rules in
    elim ((Contains-take_more vs c.loop-i.i w c.args.v.now c.loop-i-test.true c.index-vertices-i.is).0 one) [
      | inl old ↦ c.loop-i.invariant old
      | inr same ↦ true≢false (sym (vertex_eq-refl w) ∙ ap (vertex_eq w) (sym same) ∙ test)
    ]

pub returns-clause-none : goal.returns-clause-none
returns-clause-none c = λ one. c.loop-i.invariant ((Contains-take_all c.args.vertices.now c.loop-i.i c.args.v.now c.loop-i-test.false).1 one)
