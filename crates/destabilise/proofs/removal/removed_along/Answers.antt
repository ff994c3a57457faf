use Rattle.std.proofs.Common.{◌≡◌, ◌↔◌, List, sym, subst}
use Rattle.std.specs.Prelude.{Contains}
use Rattle.constraint_sys.specs.declared.unknown.Unknown.{Unknown}
use Rattle.constraint_sys.specs.Table.{IsThere}
use Rattle.destabilise.specs.Seeds.{IsSeed}
use Rattle.destabilise.proofs.Removing.{mutexes_below, removed_is}
use Rattle.destabilise.proofs.Searching.{least_more}
use Rattle.destabilise.proofs.removal.removed_along.Goals as goal

pub seeds-requires-clause-mutexes : goal.seeds-requires-clause-mutexes
seeds-requires-clause-mutexes c = mutexes_below c.args.old.now c.args.table.now c.requires.shaped _ c.requires.matching.mutexes.len

pub returns : goal.returns
returns c =
    let t = c.args.table.now in
    let m = c.args.matching.now in
    let from = c.in_ok-from_main.from_main in
    let seeded : (v : Unknown) → Contains c.as_slice.result.now v ↔ (IsThere t v × IsSeed m from t v) = subst (λ (l : List Unknown). (v : Unknown) → Contains l v ↔ (IsThere t v × IsSeed m from t v)) (sym c.as_slice.ensures.value) c.in_ok-seeds.ensures in
    λ u.
    let is = removed_is c.args.old.now c.args._new.now m t from c.requires.matching c.requires.shaped c.in_ok-from_main.ensures u in (
      λ marked. is.0 (least_more (λ v one. (seeded v).0 one.0) ((c.in_ok-marks.ensures u).0 marked)),
      λ one. (c.in_ok-marks.ensures u).1 (least_more (λ v both. ((seeded v).1 both, both.0)) (is.1 one)),
    )
