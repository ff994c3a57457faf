use Rattle.std.proofs.Common.{◌≡◌, ◌∙◌, ℕ, List, Option, Some, length, sym, ap, subst, arith}
use Rattle.std.specs.Prelude.{Contains, IfNone, IfSome, slice_get}
use Rattle.std.specs.Global.{Vec}
use Rattle.std.proofs.lemmas.Option.{slice_get_within}
use Rattle.arg_graph.specs.Following.{StackValue}
use Rattle.arg_graph.specs.Graphs.{offered_in, vertices_in}
use Rattle.arg_graph.specs.declared.vertex.Vertex.{Vertex}
use Rattle.arg_graph.proofs.Offering.{offers_at_vertices}
use Rattle.arg_chain.specs.declared.hop.Hop.{Hop}
use Rattle.arg_chain.specs.declared.least.Route.{Route}
use Rattle.arg_chain.specs.Calls.{frames_of}
use Rattle.arg_chain.specs.Chains.{IsChain, IsLeastChain}
use Rattle.arg_chain.specs.Least.{IsLeastRoute, IsRoute}
use Rattle.arg_chain.specs.Serving.{Served}
use Rattle.arg_chain.specs.Walk.{Graph, IsGraph, IsTurned}
use Rattle.arg_chain.proofs.LeastChains.{least_is_least, none_is_none}
use Rattle.arg_chain.proofs.Tops.{least_top}
use Rattle.arg_chain.proofs.calls.Calls.chain_to.Goals as goal

pub least_route-requires-clause-graph : goal.least_route-requires-clause-graph
least_route-requires-clause-graph c = subst (λ (l : Graph). IsGraph l) (sym c.rows-rows.ensures) c.self.invariant.calls.graph

pub least_route-requires-clause-turned : goal.least_route-requires-clause-turned
least_route-requires-clause-turned c =
    let ready = c.self.invariant in
    subst (λ (l : Graph). IsTurned l c.as_slice-before.result.now) (sym c.rows-rows.ensures)
    (subst (λ (b : List (Vec ℕ)). IsTurned c.self.inside.hops.rows.items b) (sym c.as_slice-before.ensures.value) ready.turned)

pub least_route-requires-clause-roots : goal.least_route-requires-clause-roots
least_route-requires-clause-roots c = λ r one.
    let ready = c.self.invariant in
    let root = (ready.roots r).0 (subst (λ (l : List ℕ). Contains l r) c.as_slice-roots.ensures.value one) in
    let number = root.2.2 in
    omega (arith, ready.calls.numbered root.0 number.0 number.1, number.2, ap (λ (l : Graph). length l) c.rows-rows.ensures)

pub least_route-requires-clause-target : goal.least_route-requires-clause-target
least_route-requires-clause-target c =
    let g = c.self.inside.graph.now in
    let at : slice_get (vertices_in g) c.args.target ≡ Some c.args.v.now = subst (λ (s : Served). slice_get (vertices_in s.graph) c.args.target ≡ Some c.args.v.now) (sym c.self.view_is) c.requires in
    omega (arith, slice_get_within (vertices_in g) c.args.target c.args.v.now at, c.self.invariant.calls.count, ap (λ (l : Graph). length l) c.rows-rows.ensures)

pub returns-in_ok-stack-in-Some-clause-some : goal.returns-in_ok-stack-in-Some-clause-some
returns-in_ok-stack-in-Some-clause-some c =
    let ready = c.self.invariant in
    let p = c.self.inside.program.now in
    let g = c.self.inside.graph.now in
    let vs = vertices_in g in
    let numbers = c.self.inside.hops.numbers.entries in
    let rows = c.self.inside.hops.rows.items in
    let roots = c.self.inside.roots.items in
    let route = c.in-Some.route in
    let at : slice_get vs c.args.target ≡ Some c.args.v.now = subst (λ (s : Served). slice_get (vertices_in s.graph) c.args.target ≡ Some c.args.v.now) (sym c.self.view_is) c.requires in
    let found = subst (λ (o : Option Route). IfSome o (λ s. IsLeastRoute c.rows-rows.result.now c.as_slice-roots.result.now c.args.target s.root s.steps.items)) c.in-Some.is c.in_ok-route.ensures.some in
    let over_rows = subst (λ (l : Graph). IsLeastRoute l c.as_slice-roots.result.now c.args.target route.root route.steps.items) c.rows-rows.ensures found in
    let least = subst (λ (l : List ℕ). IsLeastRoute rows l c.args.target route.root route.steps.items) c.as_slice-roots.ensures.value over_rows in
    let is = c.in_ok-stack-in-Some.ensures ∙ ap (λ (l : List Vertex). frames_of l c.as_slice.result.now) c.vertices-vertices.ensures ∙ ap (λ (l : List Hop). frames_of vs l) c.as_slice.ensures.value in
    subst (λ (s : Served). IsLeastChain s.program (vertices_in s.graph) (offered_in s.graph) c.args.v.now c.in_ok-stack-in-Some.stack) c.self.view_is
    (subst (λ (s : StackValue). IsLeastChain p vs (offered_in g) c.args.v.now s) (sym is)
    (least_is_least vs (offered_in g) numbers rows ready.calls ready.graph.1.in_order c.args.target c.args.v.now at p roots ready.roots (offers_at_vertices p ready.graph.0 g ready.graph.1) route.root route.steps.items least))

pub returns-in-None-clause-none : goal.returns-in-None-clause-none
returns-in-None-clause-none c =
    let ready = c.self.invariant in
    let p = c.self.inside.program.now in
    let g = c.self.inside.graph.now in
    let vs = vertices_in g in
    let numbers = c.self.inside.hops.numbers.entries in
    let rows = c.self.inside.hops.rows.items in
    let roots = c.self.inside.roots.items in
    let at : slice_get vs c.args.target ≡ Some c.args.v.now = subst (λ (s : Served). slice_get (vertices_in s.graph) c.args.target ≡ Some c.args.v.now) (sym c.self.view_is) c.requires in
    let none = subst (λ (o : Option Route). IfNone o ((root : ℕ) (steps : List Hop) → IsRoute c.rows-rows.result.now c.as_slice-roots.result.now c.args.target root steps → ⊥)) c.in-None.is c.in_ok-route.ensures.none in
    let over_rows = subst (λ (l : Graph). (root : ℕ) (steps : List Hop) → IsRoute l c.as_slice-roots.result.now c.args.target root steps → ⊥) c.rows-rows.ensures none in
    let none_at_all = subst (λ (l : List ℕ). (root : ℕ) (steps : List Hop) → IsRoute rows l c.args.target root steps → ⊥) c.as_slice-roots.ensures.value over_rows in
    subst (λ (s : Served). (stack : StackValue) → IsChain s.program (vertices_in s.graph) (offered_in s.graph) c.args.v.now stack → ⊥) c.self.view_is
    (none_is_none vs (offered_in g) numbers rows ready.calls ready.graph.1.in_order c.args.target c.args.v.now at p roots ready.roots (offers_at_vertices p ready.graph.0 g ready.graph.1) none_at_all)

pub returns-in_ok-stack-in-Some-clause-top : goal.returns-in_ok-stack-in-Some-clause-top
returns-in_ok-stack-in-Some-clause-top c = least_top _ _ _ _ _ (returns-in_ok-stack-in-Some-clause-some c)
