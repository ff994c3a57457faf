use Rattle.std.proofs.Common.{◌≡◌, ◌↔◌, List, subst, sym, ap, ◌∙◌}
use Rattle.std.specs.Prelude.{Contains}
use Rattle.constraint_sys.specs.declared.unknown.Unknown.{Unknown}
use Rattle.dep_index.specs.Rows.{set_at, items_of}
use Rattle.dep_index.proofs.rows.take_old.Goals as goal

pub returns-in-Some-clause-members : goal.returns-in-Some-clause-members
returns-in-Some-clause-members c =
    let is = c.as_slice.ensures.value ∙ ap items_of (sym c.in-Some.is) in
    subst (λ (l : List Unknown). (w y : Unknown) → Contains (set_at c.take_each.new.rows.entries w) y ↔ (Contains (set_at c.args.rows.now.entries w) y × ((y ≡ c.args.q.now) × Contains l w → ⊥))) is c.take_each.ensures.members
