use Rattle.std.proofs.Common.{◌≡◌, ◌∙◌, ◌+◌, ◌++◌, ◌∷◌, List, drop, sym, ap, subst, rules}
use Rattle.std.specs.Prelude.{All, is_none}
use Rattle.std.proofs.lemmas.List.Elements.{All-head}
use Rattle.constraint_sys.specs.declared.value.Effect.{Effect}
use Rattle.constraint_sys.specs.Arising.{CanRaise, arisen_in, arisen_in_each}
use Rattle.constraint_sys.specs.Table.{TableValue, value_at}
use Rattle.constraint_sys.specs.Turn.{arising}
use Rattle.constraint_sys.proofs.Arisen.{arisen_absent, arisen_present, begins_still, can_rest}
use Rattle.constraint_sys.proofs.Ordered.{drop_read}
use Rattle.constraint_sys.proofs.arise.arise_each.Goals as goal
use Rattle.constraint_sys.proofs.arise.arise_each.Goals.{then-is_none+in_ok-arise, else-is_none}

pub arise-requires-clause-fit : goal.arise-requires-clause-fit
arise-requires-clause-fit c =
    let es = c.args.raises.now in
    let i = c.loop-e.e-index in
    let e = c.e-item.result in
    let front : drop i es ≡ e ∷ drop (i + 1) es = drop_read es i e c.loop-e-test.true c.e-item.is in
    All-head (CanRaise c.args.program.now c.loop-e.table) e (drop (i + 1) es) (subst (λ (l : List Effect). All (CanRaise c.args.program.now c.loop-e.table) l) front c.loop-e.invariant.can)

pub loop-e-preserved : goal.loop-e-preserved
loop-e-preserved c =
    let p = c.args.program.now in
    let t = c.loop-e.table in
    let es = c.args.raises.now in
    let i = c.loop-e.e-index in
    let e = c.e-item.result in
    let rest = drop (i + 1) es in
    let front : drop i es ≡ e ∷ rest = drop_read es i e c.loop-e-test.true c.e-item.is in
    let can : All (CanRaise p t) (e ∷ rest) = subst (λ (l : List Effect). All (CanRaise p t) l) front c.loop-e.invariant.can in
    let so_far : arisen_in_each p (arisen_in p t e) rest ≡ arisen_in_each p c.args.table.now es = ap (arisen_in_each p t) (sym front) ∙ c.loop-e.invariant.arisen in
    let tells : is_none (value_at t e.target) ≡ c.is_none.result = search rules in
    elim c.if-is_none.branch [
      | then-is_none+in_ok-arise w ↦
          (let is : arisen_in p t e ≡ t ++ arising p t e.target e.value = arisen_absent p t e c.is_none.result tells w.if-is_none.true in
          let new : c.if-is_none.table ≡ t ++ arising p t e.target e.value = w.table-is ∙ w.in_ok-arise.ensures.ok in
          let same : c.if-is_none.table ≡ arisen_in p t e = new ∙ sym is in
          record {
            can = can_rest p t c.if-is_none.table e rest same can;
            arisen = ap (λ (s : TableValue). arisen_in_each p s rest) same ∙ so_far;
            begins = begins_still c.args.table.now t (arising p t e.target e.value) c.if-is_none.table c.loop-e.invariant.begins new;
          })
      | else-is_none w ↦
          (let is : arisen_in p t e ≡ t = arisen_present p t e c.is_none.result tells w.if-is_none.false in
          let same : c.if-is_none.table ≡ arisen_in p t e = w.table-is ∙ sym is in
          record {
            can = can_rest p t c.if-is_none.table e rest same can;
            arisen = ap (λ (s : TableValue). arisen_in_each p s rest) same ∙ so_far;
            begins = (c.loop-e.invariant.begins.0, w.table-is ∙ c.loop-e.invariant.begins.1);
          })
    ]
