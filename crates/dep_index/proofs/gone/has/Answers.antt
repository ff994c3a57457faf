use Rattle.std.proofs.Common.{refl, true≢false, sym}
use Rattle.constraint_sys.specs.contracts.unknown.UnknownOrd.TheImpl.Laws.{total-law}
use Rattle.constraint_sys.specs.Table.{unknown_cmp}
use Rattle.constraint_sys.proofs.DirtySet.{same_from_cmp}
use Rattle.dep_index.proofs.Ordered.{not_there, place_of_sorted, same_unknown}
use Rattle.dep_index.proofs.gone.has.Goals as goal

pub returns-in-Ok : goal.returns-in-Ok
returns-in-Ok c = (λ _. (c.in-Ok.field-0, c.in-Ok.ensures.bound, same_from_cmp _ c.args.x.now (c.in-Ok.ensures.ok c.args.x.now)), λ _. refl)

pub returns-in-Err : goal.returns-in-Err
returns-in-Err c =
    let at = place_of_sorted c.args.all.now c.args.x.now c.in-Err.field-0 c.requires c.in-Err.ensures.bound c.in-Err.ensures.position in
    (λ no. absurd (true≢false (sym no)), λ one. absurd (not_there unknown_cmp total-law c.args.all.now c.in-Err.field-0 c.args.x.now (same_unknown c.args.x.now) at one))
