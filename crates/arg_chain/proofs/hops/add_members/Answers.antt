use Rattle.std.proofs.Common.{◌≡◌, ◌<◌, ◌+◌, ◌∙◌, ℕ, Option, Some, length, refl, sym, ap, subst, arith}
use Rattle.std.specs.Prelude.{IsSomeAnd, slice_get}
use Rattle.std.specs.Global.{Vec}
use Rattle.std.proofs.lemmas.Option.{slice_get_read}
use Rattle.arg_chain.specs.declared.hop.Hop.{Hop}
use Rattle.arg_chain.specs.Calls.{HasMore, IsHopToMember}
use Rattle.arg_chain.proofs.Rows.{one_member_more, same_members}
use Rattle.arg_chain.proofs.hops.add_members.Goals.{in-Some+in_ok-push_hop-in-Some, in-None}
use Rattle.arg_chain.proofs.hops.add_members.Goals as goal

pub overflow_add-vertices : goal.overflow_add-vertices
overflow_add-vertices c =
    let vs = c.args.vertices.now in
    let v = c.index-vertices-i.result in
    let at : slice_get vs c.loop-i.i ≡ Some v = slice_get_read vs (length vs) c.loop-i.i v refl c.loop-i-test.true c.index-vertices-i.is in
    let low : length vs + c.in-Some.k < length c.args.rows.now.items = subst (λ (o : Option ℕ). IsSomeAnd o (λ k. length vs + k < length c.args.rows.now.items)) (sym c.in-Some.ensures) (c.requires.each c.loop-i.i v at) in
    omega (arith, low, c.loop-i.invariant.len)

pub push_hop-requires : goal.push_hop-requires
push_hop-requires c =
    let vs = c.args.vertices.now in
    let v = c.index-vertices-i.result in
    let at : slice_get vs c.loop-i.i ≡ Some v = slice_get_read vs (length vs) c.loop-i.i v refl c.loop-i-test.true c.index-vertices-i.is in
    let low : length vs + c.in-Some.k < length c.args.rows.now.items = subst (λ (o : Option ℕ). IsSomeAnd o (λ k. length vs + k < length c.args.rows.now.items)) (sym c.in-Some.ensures) (c.requires.each c.loop-i.i v at) in
    omega (arith, low, c.loop-i.invariant.len)

pub loop-i-preserved : goal.loop-i-preserved
loop-i-preserved c =
    let vs = c.args.vertices.now in
    let v = c.index-vertices-i.result in
    let numbers = c.args.numbers.now.entries in
    let i = c.loop-i.i in
    let at : slice_get vs i ≡ Some v = slice_get_read vs (length vs) i v refl c.loop-i-test.true c.index-vertices-i.is in
    let old = c.args.rows.now.items in
    elim c.match-known.branch [
      | in-Some+in_ok-push_hop-in-Some w ↦ record {
        len = ap (λ (r : Vec (Vec Hop)). length r.items) w.rows-is ∙ w.in_ok-push_hop-in-Some.ensures.len ∙ c.loop-i.invariant.len;
        more = subst (λ (r : Vec (Vec Hop)). HasMore old r.items (IsHopToMember vs (i + 1) numbers (length vs))) (sym w.rows-is)
            (one_member_more vs numbers (length vs) i v at old c.loop-i.rows.items w.push_hop.new.rows.items w.in-Some.k (sym w.in-Some.ensures) c.loop-i.invariant.more w.in_ok-push_hop-in-Some.ensures.more);
      }
      | in-None w ↦ record {
        len = ap (λ (r : Vec (Vec Hop)). length r.items) w.rows-is ∙ c.loop-i.invariant.len;
        more = subst (λ (r : Vec (Vec Hop)). HasMore old r.items (IsHopToMember vs (i + 1) numbers (length vs))) (sym w.rows-is)
            (same_members vs numbers (length vs) i v at old c.loop-i.rows.items (sym w.in-None.ensures) c.loop-i.invariant.more);
      }
    ]

pub returns-clause-more : goal.returns-clause-more
returns-clause-more c =
    let vs = c.args.vertices.now in
    let all : c.loop-i.i ≡ length vs = omega arith in
    subst (λ (n : ℕ). HasMore c.args.rows.now.items c.loop-i.rows.items (IsHopToMember vs n c.args.numbers.now.entries (length vs))) all c.loop-i.invariant.more
