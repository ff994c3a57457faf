use Rattle.std.proofs.Common.{◌≡◌, ◌≢◌, ◌↔◌, List, subst, sym, rules}
use Rattle.std.specs.Prelude.{Contains}
use Rattle.constraint_sys.specs.Table.{unknown_cmp}
use Rattle.constraint_sys.specs.declared.unknown.Unknown.{Unknown}
use Rattle.dep_index.specs.Rows.{IsAscending, set_at}
use Rattle.dep_index.proofs.rows.take_member.Goals as goal

pub returns-in-Some-clause-members : goal.returns-in-Some-clause-members
returns-in-Some-clause-members c =
    let after : set_at (c.get_mut.follows.lender c.take_out.new.members).entries c.args.u.now ≡ c.take_out.new.members.items = search rules in
    let before : set_at c.args.rows.now.entries c.args.u.now ≡ c.in-Some.row.now.items = search rules in
    λ y. subst (λ (l : List Unknown). Contains l y ↔ (Contains (set_at c.args.rows.now.entries c.args.u.now) y × (y ≢ c.args.q.now))) (sym after) (subst (λ (l : List Unknown). Contains c.take_out.new.members.items y ↔ (Contains l y × (y ≢ c.args.q.now))) (sym before) (c.take_out.ensures.members y))

pub take_out-requires : goal.take_out-requires
take_out-requires c =
    let before : set_at c.args.rows.now.entries c.args.u.now ≡ c.in-Some.row.now.items = search rules in
    subst (IsAscending unknown_cmp) before c.requires
