use Rattle.std.proofs.Common.{◌≡◌, ◌⊎◌, ◌↔◌, List, inl, inr, sym, subst}
use Rattle.std.specs.Prelude.{Contains}
use Rattle.constraint_sys.specs.Table.{unknown_cmp}
use Rattle.constraint_sys.specs.declared.unknown.Unknown.{Unknown}
use Rattle.constraint_sys.specs.contracts.unknown.UnknownOrd.TheImpl.Laws.{total-law}
use Rattle.constraint_sys.proofs.Ordered.{Contains-insert}
use Rattle.dep_index.specs.Rows.{IsAscending}
use Rattle.dep_index.proofs.Ordered.{IsAscending-insert, not_there, same_unknown, place_of_search}
use Rattle.dep_index.proofs.ascending.put_in.Goals as goal

pub insert_reserved-requires-clause-room : goal.insert_reserved-requires-clause-room
insert_reserved-requires-clause-room c =
    let at = place_of_search c.deref.result.now c.args.members.now.items c.args.q.now c.in-Err.place c.deref.ensures.value c.requires.ascending c.in-Err.ensures.bound c.in-Err.ensures.position in
    elim c.requires.room [
      | inl room ↦ room
      | inr there ↦ absurd (not_there unknown_cmp total-law c.args.members.now.items c.in-Err.place c.args.q.now (same_unknown c.args.q.now) at there)
    ]

pub returns-in-Err-clause-members : goal.returns-in-Err-clause-members
returns-in-Err-clause-members c =
    let xs = c.args.members.now.items in
    λ y. subst (λ (l : List Unknown). Contains l y ↔ (Contains xs y ⊎ (y ≡ c.args.q.now))) (sym c.insert_reserved.ensures) (Contains-insert xs c.in-Err.place c.args.q.now y)

pub returns-in-Err-clause-ascending : goal.returns-in-Err-clause-ascending
returns-in-Err-clause-ascending c =
    let xs = c.args.members.now.items in
    let at = place_of_search c.deref.result.now xs c.args.q.now c.in-Err.place c.deref.ensures.value c.requires.ascending c.in-Err.ensures.bound c.in-Err.ensures.position in
    subst (λ (l : List Unknown). IsAscending unknown_cmp l) (sym c.insert_reserved.ensures) (IsAscending-insert unknown_cmp total-law xs c.in-Err.place c.args.q.now c.requires.ascending at)
