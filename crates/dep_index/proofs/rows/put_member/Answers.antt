use Rattle.std.proofs.Common.{◌≡◌, ◌⊎◌, ◌↔◌, List, subst, sym, rules}
use Rattle.std.specs.Prelude.{Contains}
use Rattle.constraint_sys.specs.Table.{unknown_cmp}
use Rattle.constraint_sys.specs.declared.unknown.Unknown.{Unknown}
use Rattle.dep_index.specs.Rows.{IsAscending, set_at}
use Rattle.dep_index.proofs.rows.put_member.Goals as goal

pub returns-clause-members : goal.returns-clause-members
returns-clause-members c =
    let after : set_at (c.get_mut.follows.lender c.put_in.new.members).entries c.args.u.now ≡ c.put_in.new.members.items = search rules in
    let before : set_at c.args.rows.now.entries c.args.u.now ≡ c.in-Some.row.now.items = search rules in
    λ y. subst (λ (l : List Unknown). Contains l y ↔ (Contains (set_at c.args.rows.now.entries c.args.u.now) y ⊎ (y ≡ c.args.q.now))) (sym after) (subst (λ (l : List Unknown). Contains c.put_in.new.members.items y ↔ (Contains l y ⊎ (y ≡ c.args.q.now))) (sym before) (c.put_in.ensures.members y))

pub put_in-requires-clause-ascending : goal.put_in-requires-clause-ascending
put_in-requires-clause-ascending c =
    let before : set_at c.args.rows.now.entries c.args.u.now ≡ c.in-Some.row.now.items = search rules in
    subst (IsAscending unknown_cmp) before c.requires.ascending
