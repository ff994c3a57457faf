use Rattle.std.proofs.Common.{◌≡◌, ◌∙◌, Some, sym, ap, subst, true≢false}
use Rattle.std.specs.Option.{option_copied}
use Rattle.constraint_sys.specs.Carry.{IsRemoved}
use Rattle.constraint_sys.specs.Table.{TableValue, value_at}
use Rattle.global_restart.specs.Keeping.{AddsEntry, added, left_out}
use Rattle.global_restart.proofs.Keeps.{has_number}
use Rattle.global_restart.proofs.kept.add_entry.Goals as goal

pub renamed-requires-clause-has : goal.renamed-requires-clause-has
renamed-requires-clause-has c =
    has_number c.args.old.now c.args.new.now c.args.matching.now c.args.table.now c.requires.matching c.args.u.now c.requires.there
    (λ removed. true≢false (sym (c.contains-is_removed.ensures.1 (c.requires.marks.removed c.args.u.now removed)) ∙ c.if-is_removed.false))

pub add-requires : goal.add-requires
add-requires c =
    c.requires.fresh c.renamed.result (λ removed. true≢false (sym (c.contains-is_removed.ensures.1 (c.requires.marks.removed c.args.u.now removed)) ∙ c.if-is_removed.false)) c.renamed.ensures

pub returns-then-is_removed : goal.returns-then-is_removed
returns-then-is_removed c = left_out (c.requires.marks.marked c.args.u.now (c.contains-is_removed.ensures.0 c.if-is_removed.true))

pub returns-in_ok-add-in-Some : goal.returns-in_ok-add-in-Some
returns-in_ok-add-in-Some c =
    let at : value_at c.args.table.now c.args.u.now ≡ Some c.in-Some.v.now = sym c.get.ensures ∙ ap option_copied c.in-Some.is in
    subst (λ (t : TableValue). AddsEntry c.args.old.now c.args.new.now c.args.table.now c.args.u.now c.args.kept.now t) (sym c.in_ok-add-in-Some.ensures.ok)
    (added (λ removed. true≢false (sym (c.contains-is_removed.ensures.1 (c.requires.marks.removed c.args.u.now removed)) ∙ c.if-is_removed.false)) c.renamed.ensures at c.in_ok-value-in-Some.ensures)
