use Rattle.std.proofs.Common.{◌≡◌, ◌≢◌, ◌↔◌, ◌<◌, List, length, get_or, sym, subst}
use Rattle.std.specs.Prelude.{Contains}
use Rattle.constraint_sys.specs.Table.{unknown_cmp}
use Rattle.constraint_sys.specs.declared.unknown.Unknown.{Unknown}
use Rattle.constraint_sys.specs.contracts.unknown.UnknownOrd.TheImpl.Laws.{total-law}
use Rattle.constraint_sys.proofs.DirtySet.{same_from_cmp}
use Rattle.dep_index.specs.Rows.{IsAscending}
use Rattle.dep_index.proofs.Ordered.{Contains-remove, IsAscending-remove, not_there, same_unknown, place_of_search}
use Rattle.dep_index.proofs.ascending.take_out.Goals as goal

pub returns-in-Ok-clause-members : goal.returns-in-Ok-clause-members
returns-in-Ok-clause-members c =
    let xs = c.args.members.now.items in
    let place = c.in-Ok.place in
    let within : place < length xs = subst (λ (l : List Unknown). place < length l) c.deref.ensures.value c.in-Ok.ensures.bound in
    let at : (d : Unknown) → get_or xs place d ≡ c.args.q.now = λ d. subst (λ (l : List Unknown). get_or l place d ≡ c.args.q.now) c.deref.ensures.value (same_from_cmp _ _ (c.in-Ok.ensures.ok d)) in
    λ y. subst (λ (l : List Unknown). Contains l y ↔ (Contains xs y × (y ≢ c.args.q.now))) (sym c.remove.ensures.items) (Contains-remove unknown_cmp total-law xs place c.args.q.now (same_unknown c.args.q.now) within c.requires at y)

pub returns-in-Ok-clause-ascending : goal.returns-in-Ok-clause-ascending
returns-in-Ok-clause-ascending c =
    let xs = c.args.members.now.items in
    let within : c.in-Ok.place < length xs = subst (λ (l : List Unknown). c.in-Ok.place < length l) c.deref.ensures.value c.in-Ok.ensures.bound in
    subst (λ (l : List Unknown). IsAscending unknown_cmp l) (sym c.remove.ensures.items) (IsAscending-remove unknown_cmp total-law xs c.in-Ok.place within c.requires)

pub returns-in-Err-clause-members : goal.returns-in-Err-clause-members
returns-in-Err-clause-members c =
    let xs = c.args.members.now.items in
    let at = place_of_search c.deref.result.now xs c.args.q.now c.in-Err.field-0 c.deref.ensures.value c.requires c.in-Err.ensures.bound c.in-Err.ensures.position in
    λ y. (
      λ there. (there, λ same. not_there unknown_cmp total-law xs c.in-Err.field-0 c.args.q.now (same_unknown c.args.q.now) at (subst (λ (z : Unknown). Contains xs z) same there)),
      λ both. both.0,
    )
