use Rattle.std.proofs.Common.{◌≡◌, ◌≢◌, ◌++◌, ◌∷◌, [], None, subst, ap, ◌∙◌}
use Rattle.std.specs.Prelude.{OnOk}
use Rattle.indexmap.proofs.CallerLemmas.{insert_entry-new}
use Rattle.constraint_sys.specs.Table.{TableValue, unknown_eq, value_at, with_value}
use Rattle.constraint_sys.proofs.table.Table.add.Goals as goal

pub returns-clause-ok : goal.returns-clause-ok
returns-clause-ok c =
    let entries = c.self.inside.map.entries in
    let none : value_at entries c.args.u ≡ None = ap (λ (t : TableValue). value_at t c.args.u) c.self.view_is ∙ c.requires in
    let last : with_value entries c.args.u c.args.v ≡ entries ++ (c.args.u, c.args.v) ∷ [] = insert_entry-new unknown_eq c.self.inside.map c.args.u c.args.v none in
    let wanted = last ∙ ap (λ (t : TableValue). t ++ (c.args.u, c.args.v) ∷ []) c.self.view_is in
    subst (λ (t : TableValue). OnOk c.put.result (c.put.new.map.entries ≡ t)) wanted c.put.ensures.put

pub returns-clause-others : goal.returns-clause-others
returns-clause-others c = λ q. subst (λ (t : TableValue). OnOk c.put.result (q ≢ c.args.u → value_at c.put.new.map.entries q ≡ value_at t q)) c.self.view_is (c.put.ensures.others q)
