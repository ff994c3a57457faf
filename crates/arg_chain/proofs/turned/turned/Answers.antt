use Rattle.std.proofs.Common.{◌≡◌, ◌<◌, List, length, subst, sym, ◌∙◌, arith}
use Rattle.std.specs.Prelude.{Contains}
use Rattle.arg_chain.specs.declared.hop.Hop.{Hop}
use Rattle.arg_chain.specs.Walk.{steps_at}
use Rattle.arg_chain.proofs.Turning.{steps_read, turned_more, turned_all}
use Rattle.arg_chain.proofs.turned.turned.Goals as goal

pub loop-u-init : goal.loop-u-init
loop-u-init c = record {
  len = c.in_ok-rows.ensures.len;
  members = λ u w. (λ one. absurd (c.in_ok-rows.ensures.none u w one), λ both. absurd (omega arith));
}

pub add_each-requires : goal.add_each-requires
add_each-requires c =
    let g = c.args.graph.now in
    let row : steps_at g c.loop-u.u ≡ c.deref.result.now = steps_read g c.loop-u.u c.index-graph-u.result c.loop-u-test.true c.index-graph-u.is ∙ sym c.deref.ensures.value in
    λ w leads.
    let small : leads.0.to < length g = c.requires.graph c.loop-u.u leads.0 (subst (λ (l : List Hop). Contains l leads.0) (sym row) leads.1) in
    omega (arith, small, leads.2, c.loop-u.invariant.len)

pub loop-u-preserved : goal.loop-u-preserved
loop-u-preserved c =
    let g = c.args.graph.now in
    let row : steps_at g c.loop-u.u ≡ c.deref.result.now = steps_read g c.loop-u.u c.index-graph-u.result c.loop-u-test.true c.index-graph-u.is ∙ sym c.deref.ensures.value in
    record {
      len = c.in_ok-add_each.ensures.len ∙ c.loop-u.invariant.len;
      members = λ u w. turned_more g c.loop-u.u c.deref.result.now row u w (c.in_ok-add_each.ensures.members w u) (c.loop-u.invariant.members u w);
    }

pub returns : goal.returns
returns c = record {
  len = c.loop-u.invariant.len;
  members = λ u w. turned_all c.args.graph.now c.loop-u.u c.loop-u-test.false u w (c.loop-u.invariant.members u w);
}
