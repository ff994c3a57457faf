use Rattle.std.proofs.Common.{◌≡◌, ◌+◌, ℕ, List, [], take, get_or, subst, sym, ◌∙◌, arith}
use Rattle.std.specs.Prelude.{Contains}
use Rattle.std.proofs.lemmas.List.Elements.{Contains-get_or}
use Rattle.arg_chain.specs.Walk.{before_at, IsBeforeOne}
use Rattle.arg_chain.proofs.Spreading.{spreads_more, before_more}
use Rattle.arg_chain.proofs.Turning.{row_read}
use Rattle.arg_chain.proofs.distances.spread.Goals as goal

pub bounds-before-w : goal.bounds-before-w
bounds-before-w c = c.requires.front _ (Contains-get_or c.args.front.now c.loop-w.w-index 0 c.loop-w-test.true)

pub reach_each-requires : goal.reach_each-requires
reach_each-requires c =
    let t = c.args.before.now in
    let w = get_or c.args.front.now c.loop-w.w-index 0 in
    let within = c.requires.front w (Contains-get_or c.args.front.now c.loop-w.w-index 0 c.loop-w-test.true) in
    let row : before_at t w ≡ c.deref.result.now = row_read t w c.index-before-w.result within c.index-before-w.is ∙ sym c.deref.ensures.value in
    λ u one.
    let small = c.requires.before w u (subst (λ (l : List ℕ). Contains l u) (sym row) one) in
    omega (arith, small, c.loop-w.invariant.len, c.requires.len)

pub loop-w-preserved : goal.loop-w-preserved
loop-w-preserved c =
    let t = c.args.before.now in
    let front = c.args.front.now in
    let i = c.loop-w.w-index in
    let w = get_or front i 0 in
    let within = c.requires.front w (Contains-get_or front i 0 c.loop-w-test.true) in
    let row : before_at t w ≡ c.deref.result.now = row_read t w c.index-before-w.result within c.index-before-w.is ∙ sym c.deref.ensures.value in
    spreads_more c.args.known.now.items [] c.args.level (IsBeforeOne t (take i front)) (Contains c.deref.result.now) (IsBeforeOne t (take (i + 1) front))
    c.loop-w.known.items c.reach_each.new.known.items c.loop-w.next.items c.reach_each.new.next.items c.loop-w.invariant c.in_ok-reach_each.ensures (before_more t front i c.deref.result.now c.loop-w-test.true row)

pub offset_bounds-before-w : goal.offset_bounds-before-w
offset_bounds-before-w c = (let low = c.requires.front _ (Contains-get_or c.args.front.now c.loop-w.w-index 0 c.loop-w-test.true) in omega (arith, low))
