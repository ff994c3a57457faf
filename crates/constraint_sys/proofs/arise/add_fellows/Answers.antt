use Rattle.std.proofs.Common.{◌≡◌, ◌∙◌, ◌++◌, ◌∷◌, [], length, sym, ap, rules}
use Rattle.std.specs.Prelude.{filter, is_none}
use Rattle.state_dom.specs.StateValue.{Bottom}
use Rattle.constraint_sys.specs.declared.unknown.Unknown.TheVariants.{Point}
use Rattle.constraint_sys.specs.declared.value.Value.TheVariants.{State}
use Rattle.constraint_sys.specs.Table.{TableValue, value_at}
use Rattle.constraint_sys.specs.Turn.{bottoms, is_absent}
use Rattle.constraint_sys.proofs.Fellows.{fellow_added, fellow_there}
use Rattle.constraint_sys.proofs.arise.add_fellows.Goals as goal
use Rattle.constraint_sys.proofs.arise.add_fellows.Goals.{then-is_none+in_ok-bottom+in_ok-add, else-is_none}

pub loop-node-preserved : goal.loop-node-preserved
loop-node-preserved c =
    let old = c.args.table.now in
    let room = length c.args.function.now.slots in
    let f = c.args.func in
    let key = c.args.key.now in
    let n = c.loop-node.node in
    let u = Point f key n in
    let is = c.loop-node.invariant in
    let tells : is_none (value_at c.loop-node.table u) ≡ c.is_none.result = search rules in
    let here : is_none (value_at (old ++ filter (is_absent old) (bottoms room f key n)) u) ≡ c.is_none.result = ap (λ (t : TableValue). is_none (value_at t u)) (sym is) ∙ tells in
    elim c.if-is_none.branch [
      | then-is_none+in_ok-bottom+in_ok-add w ↦
          (let state : w.in_ok-bottom.bottom ≡ Bottom room = w.in_ok-bottom.ensures ∙ ap Bottom c.room-slots.ensures in
          w.table-is ∙ w.in_ok-add.ensures.ok ∙ (λ i. is i ++ (c.point-fellow.ensures i, State (state i)) ∷ []) ∙ fellow_added old room f key n c.loop-node.auto.node (here ∙ w.if-is_none.true))
      | else-is_none w ↦ w.table-is ∙ is ∙ fellow_there old room f key n c.loop-node.auto.node (here ∙ w.if-is_none.false)
    ]
