use Rattle.std.proofs.Common.{◌≡◌, ◌↔◌, sym, subst, List}
use Rattle.std.specs.Prelude.{Contains}
use Rattle.constraint_sys.specs.Turn.{Rose, table_after}
use Rattle.constraint_sys.specs.declared.unknown.Unknown.{Unknown}
use Rattle.constraint_sys.proofs.Awakening.{Awake-exactly}
use Rattle.constraint_sys.proofs.Fellows.{if_ok}
use Rattle.constraint_sys.proofs.turns.awakened.Goals as goal

pub returns : goal.returns
returns c = λ q.
    let p = c.args.program.now in
    let t = c.args.table.now in
    let new = table_after p t c.args.u.now in
    let made = c.readers.ensures q in
    let rose : c.as_slice.result.now ≡ c.in_ok-rose.rose.items = c.as_slice.ensures.value in
    let exact = Awake-exactly p t new c.as_slice.result.now q (λ r. subst (λ (l : List Unknown). Contains l r ↔ Rose t new r) (sym rose) (c.in_ok-rose.ensures r)) in
    if_ok c.readers.result _ _ (λ us told. (λ one. exact.0 (told.0 one), λ risen. told.1 (exact.1 risen))) made
