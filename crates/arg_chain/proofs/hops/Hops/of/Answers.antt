use Rattle.std.proofs.Common.{◌<◌, ◌+◌, ◌∙◌, ℕ, List, Option, length, sym, ap, subst, arith}
use Rattle.std.specs.Prelude.{IsSomeAnd}
use Rattle.std.proofs.lemmas.Option.{slice_get_within}
use Rattle.arg_graph.specs.Graphs.{offered_in, vertices_in}
use Rattle.arg_graph.specs.declared.vertex.Vertex.{Vertex}
use Rattle.arg_chain.specs.Calls.{AreInBlocks, IsCallsOf}
use Rattle.arg_chain.proofs.Between.{in_blocks}
use Rattle.arg_chain.proofs.Made.{made}
use Rattle.arg_chain.proofs.hops.Hops.of.Goals as goal

pub number-requires : goal.number-requires
number-requires c = subst (λ (l : List Vertex). AreInBlocks l) (sym c.vertices-vertices.ensures) (in_blocks (vertices_in c.args.graph.now) c.requires)

pub call_rows-requires : goal.call_rows-requires
call_rows-requires c = record { fits = λ v k is. omega (arith, (c.in_ok-numbers.ensures.only v k is).0, c.len-contexts.ensures.small) }

pub add_members-requires : goal.add_members-requires
add_members-requires c = record {
  each = λ i v at.
      let vs = c.vertices-vertices.result.now in
      let it = c.in_ok-numbers.ensures in
      let one = it.each i v (slice_get_within vs i v at) at in
      let low : length vs + one.0 < length c.add_empty_rows.new.rows.items = omega (arith, (it.only v one.0 one.1).0, c.in_ok-rows.ensures.len, c.in_ok-add_empty_rows.ensures.len, c.len-contexts.ensures.len) in
      subst (λ (o : Option ℕ). IsSomeAnd o (λ k. length vs + k < length c.add_empty_rows.new.rows.items)) (sym one.1) low;
}

pub returns : goal.returns
returns c =
    let g = c.args.graph.now in
    let is = c.vertices-vertices.ensures in
    let numbers = c.in_ok-numbers.numbers.entries in
    let all = c.add_members.new.rows.items in
    subst (λ (l : List Vertex). IsCallsOf l (offered_in g) numbers all) is
    (made c.vertices-vertices.result.now (offered_in g) numbers (length numbers) c.in_ok-rows.rows.items c.add_empty_rows.new.rows.items all
    c.in_ok-numbers.ensures c.in_ok-rows.ensures.len c.in_ok-rows.ensures.calls
    (c.in_ok-add_empty_rows.ensures.len ∙ ap (λ (n : ℕ). length c.in_ok-rows.rows.items + n) c.len-contexts.ensures.len) c.in_ok-add_empty_rows.ensures.kept
    c.in_ok-add_members.ensures.len c.in_ok-add_members.ensures.more)
