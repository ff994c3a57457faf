use Rattle.std.proofs.Common.{◌≡◌, inl, inr, List, Option, refl, sym, subst}
use Rattle.std.specs.Prelude.{Contains, IfSome, IsSome}
use Rattle.std.proofs.lemmas.List.Elements.{Contains-get_or}
use Rattle.constraint_sys.proofs.Ordered.{Contains-take_all, Contains-take_more}
use Rattle.arg_graph.specs.Graphs.{steps_in}
use Rattle.arg_graph.specs.Offered.{offered}
use Rattle.arg_graph.specs.declared.vertex.Step.{Step}
use Rattle.arg_graph.specs.declared.vertex.Vertex.{Vertex}
use Rattle.arg_graph.proofs.VertexLemmas.{cases_vertex}
use Rattle.arg_graph.proofs.graph.steps.Goals as goal

pub offered-requires-clause-within : goal.offered-requires-clause-within
offered-requires-clause-within c =
    let vs = c.args.vertices.now in
    let v = c.v-item.result in
    c.requires.within v (subst (λ (x : Vertex). Contains vs x) (sym c.v-item.is) (Contains-get_or vs c.loop-v.v-index v c.loop-v-test.true))

pub loop-v-preserved : goal.loop-v-preserved
loop-v-preserved c =
    let p = c.args.program.now in
    let t = c.args.table.now in
    let vs = c.args.vertices.now in
    let v = c.v-item.result in
    let put = c.in_ok-put.ensures in
    let new = c.put.new.all.entries in
    let old = c.loop-v.all.entries in
    let right_here : IfSome (steps_in new v) (λ (ss : List Step). ss ≡ offered p t v) = subst (λ (o : Option (List Step)). IfSome o (λ (ss : List Step). ss ≡ offered p t v)) (sym put.here) c.in_ok-steps.ensures in
    let some_here : IsSome (steps_in new v) = subst (λ (o : Option (List Step)). IsSome o) (sym put.here) refl in
    record {
      right = λ q. elim (cases_vertex q v) [
        | inl same ↦ subst (λ (x : Vertex). IfSome (steps_in new x) (λ (ss : List Step). ss ≡ offered p t x)) (sym same) right_here
        | inr other ↦ subst (λ (o : Option (List Step)). IfSome o (λ (ss : List Step). ss ≡ offered p t q)) (sym (put.others q other)) (c.loop-v.invariant.right q)
      ];
      there = λ q one. elim (cases_vertex q v) [
        | inl same ↦ subst (λ (x : Vertex). IsSome (steps_in new x)) (sym same) some_here
        | inr other ↦
            subst (λ (o : Option (List Step)). IsSome o) (sym (put.others q other))
            (c.loop-v.invariant.there q (elim ((Contains-take_more vs c.loop-v.v-index v q c.loop-v-test.true c.v-item.is).0 one) [ inl before ↦ before | inr last ↦ absurd (other last) ]))
      ];
    }

pub returns-clause-all : goal.returns-clause-all
returns-clause-all c = λ v one. c.loop-v.invariant.there v ((Contains-take_all c.args.vertices.now c.loop-v.v-index v c.loop-v-test.false).1 one)
