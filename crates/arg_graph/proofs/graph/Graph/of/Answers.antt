use Rattle.std.proofs.Common.{◌≡◌, ◌∙◌, inl, inr, List, [], Option, None, Some, is_some, true≢false, sym, ap, subst}
use Rattle.std.specs.Prelude.{Contains, IfSome, filter}
use Rattle.std.specs.List.{flat_map}
use Rattle.std.specs.List.Sorted.{IsStrictlySortedBy}
use Rattle.std.specs.Map.{keys_of}
use Rattle.std.proofs.lemmas.Bool.{cases_Bool}
use Rattle.std.proofs.lemmas.List.Sorted.{Contains-permutation}
use Rattle.std.proofs.lemmas.Map.Keys.{IsDistinct-IsPermutation}
use Rattle.arg_graph.specs.Graphs.{steps_in, steps_or_none, vertex_cmp}
use Rattle.arg_graph.specs.Offered.{offered}
use Rattle.arg_graph.specs.Vertices.{is_at, is_vertex, vertex_of, vertices_of}
use Rattle.arg_graph.specs.declared.vertex.Step.{Step}
use Rattle.arg_graph.specs.declared.vertex.Vertex.{Vertex}
use Rattle.constraint_sys.specs.Table.{unknown_eq}
use Rattle.constraint_sys.specs.contracts.unknown.UnknownEq.TheImpl.Laws.{laws-law}
use Rattle.constraint_sys.specs.declared.unknown.Unknown.{Unknown}
use Rattle.constraint_sys.proofs.SortedUnknowns.{sorted_is_in_order}
use Rattle.arg_graph.proofs.InOrder.{unknowns_rise, vertices_rise}
use Rattle.arg_graph.proofs.Standing.{offers_none, vertex_within, vertices_all, vertices_are}
use Rattle.arg_graph.proofs.graph.Graph.of.Goals as goal

pub steps-requires-clause-within : goal.steps-requires-clause-within
steps-requires-clause-within c = λ v one.
    let t = c.args.table.now in
    let is = vertices_are t c.as_slice.result.now v (subst (λ (l : List Vertex). Contains l v) (c.as_slice-2.ensures ∙ c.in_ok-vertices.ensures) one) in
    (vertex_within c.args.program.now t c.requires.shaped v is).0

pub by_node-requires : goal.by_node-requires
by_node-requires c = λ v one.
    let t = c.args.table.now in
    let is = vertices_are t c.as_slice.result.now v (subst (λ (l : List Vertex). Contains l v) (c.as_slice-3.ensures ∙ c.in_ok-vertices.ensures) one) in
    (vertex_within c.args.program.now t c.requires.shaped v is).1

unknown_eq_symm : (u v : Unknown) → unknown_eq u v ≡ unknown_eq v u
unknown_eq_symm u v = laws-law.symm u v

-- what stands for a vertex is what it offers, and what stands for none is nothing
shows : (o : Option (List Step)) (steps : List Step) → IfSome o (λ (ss : List Step). ss ≡ steps) → (o ≡ None → steps ≡ []) → steps_or_none o ≡ steps
shows None steps right none = sym (none (λ i. None))
shows (Some ss) steps right none = right

pub returns : goal.returns
returns c =
    let p = c.args.program.now in
    let t = c.args.table.now in
    let order = c.in_ok-order.order.items in
    let entries = c.in_ok-steps.steps.entries in
    let vs = c.in_ok-vertices.vertices in
    let all : vs ≡ flat_map (vertex_of t) order = c.in_ok-vertices.ensures ∙ ap (flat_map (vertex_of t)) c.as_slice.ensures.value in
    let is : vs ≡ vertices_of t = all ∙ ap (flat_map (vertex_of t)) (sorted_is_in_order (keys_of t) order c.in_ok-order.ensures.all c.in_ok-order.ensures.sorted) in
    record {
      vertices = is;
      in_order = subst (λ (l : List Vertex). IsStrictlySortedBy vertex_cmp l) (sym all) (vertices_rise t order (unknowns_rise order c.in_ok-order.ensures.sorted (IsDistinct-IsPermutation unknown_eq unknown_eq_symm (keys_of t) order c.in_ok-order.ensures.all c.len-unknowns.ensures.distinct)));
      at_node = λ f node. c.in_ok-nodes.ensures f node ∙ ap (filter (is_at f node)) (c.as_slice-3.ensures ∙ is);
      steps = λ v. shows (steps_in entries v) (offered p t v) (c.in_ok-steps.ensures.right v) (λ absent. elim (cases_Bool (is_vertex t v)) [
        | inl stands ↦
            (let among : Contains vs v = subst (λ (l : List Vertex). Contains l v) (sym all) (vertices_all t order (λ u. Contains-permutation (keys_of t) order u c.in_ok-order.ensures.all) v stands) in
            let there = c.in_ok-steps.ensures.all v (subst (λ (l : List Vertex). Contains l v) (sym c.as_slice-2.ensures) among) in
            absurd (true≢false (sym there ∙ ap is_some absent)))
        | inr not ↦ offers_none p t v not
      ]);
    }
