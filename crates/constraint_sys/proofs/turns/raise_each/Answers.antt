use Rattle.std.proofs.Common.{◌≡◌, ◌∙◌, ◌+◌, ◌∷◌, List, drop, sym, ap, subst}
use Rattle.std.specs.Prelude.{All}
use Rattle.constraint_sys.specs.declared.value.Effect.{Effect}
use Rattle.constraint_sys.specs.Arising.{IsLike}
use Rattle.constraint_sys.specs.Table.{TableValue}
use Rattle.constraint_sys.specs.Turn.{raised_in_each}
use Rattle.constraint_sys.proofs.Arisen.{RaisesInPlace, RaisesInPlace-made}
use Rattle.constraint_sys.proofs.Ordered.{drop_read}
use Rattle.constraint_sys.proofs.turns.raise_each.Goals as goal

pub loop-e-preserved : goal.loop-e-preserved
loop-e-preserved c =
    let es = c.args.raises.now in
    let i = c.loop-e.e-index in
    let e = c.e-item.result in
    let t = c.loop-e.table in
    let new = c.raise.new.self in
    let rest = drop (i + 1) es in
    let front : drop i es ≡ e ∷ rest = drop_read es i e c.loop-e-test.true c.e-item.is in
    let made : RaisesInPlace c.args.marks.now t new e rest = RaisesInPlace-made c.args.marks.now t new e rest (subst (λ (l : List Effect). All (IsLike t) l) front c.loop-e.invariant.alike) c.raise.ensures in
    record {
      alike = made.alike;
      raised = λ p same. ap (λ (s : TableValue). raised_in_each p s rest) (sym (made.raised p same)) ∙ ap (raised_in_each p t) (sym front) ∙ c.loop-e.invariant.raised p same;
    }
