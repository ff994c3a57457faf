use Rattle.std.proofs.Common.{◌↔◌, ℕ, List, length, sym, subst}
use Rattle.std.specs.Prelude.{Contains}
use Rattle.arg_graph.specs.declared.vertex.Vertex.{Vertex}
use Rattle.arg_chain.specs.Calls.{IsRootNumber}
use Rattle.arg_chain.specs.Walk.{Graph, IsGraph, IsTurned}
use Rattle.arg_chain.proofs.calls.Calls.of.Goals as goal

pub turned-requires : goal.turned-requires
turned-requires c = record { graph = subst (λ (l : Graph). IsGraph l) (sym c.rows.ensures) c.in_ok-hops.ensures.graph }

pub invariant_of-result : goal.invariant_of-result
invariant_of-result c =
    let p = c.args.program.now in
    let numbers = c.in_ok-hops.hops.numbers.entries in
    let roots = c.in_ok-roots.roots.items in
    record {
      graph = c.requires;
      calls = c.in_ok-hops.ensures;
      turned = subst (λ (l : Graph). IsTurned l c.in_ok-before.before.items) c.rows.ensures c.in_ok-before.ensures;
      roots = subst (λ (l : List Vertex). (r : ℕ) → Contains roots r ↔ IsRootNumber p l (length l) numbers r) c.vertices.ensures c.in_ok-roots.ensures;
    }
