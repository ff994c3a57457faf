use Rattle.std.proofs.Common.{◌∙◌, List, sym, subst, true≢false}
use Rattle.std.specs.Prelude.{Contains}
use Rattle.constraint_sys.specs.Carry.{IsRemoved}
use Rattle.constraint_sys.specs.declared.unknown.Unknown.{Unknown}
use Rattle.global_restart.specs.Keeping.{LostAt}
use Rattle.global_restart.proofs.Keeps.{has_number, lost_none, lost_pushed}
use Rattle.global_restart.proofs.kept.add_lost.Goals as goal

pub renamed-requires-clause-has : goal.renamed-requires-clause-has
renamed-requires-clause-has c =
    has_number c.args.old.now c.args.new.now c.args.matching.now c.args._table.now c.requires.matching c.args.u.now c.requires.there
    (λ removed. true≢false (sym (c.contains.ensures.1 (c.requires.marks.removed c.args.u.now removed)) ∙ c.if-contains.false))

pub returns-then-contains : goal.returns-then-contains
returns-then-contains c = λ q.
    lost_none (Contains c.args.lost.now.items q) (LostAt c.args.old.now c.args.new.now c.args._table.now c.args.u.now q)
    (λ l. l.2 (c.requires.marks.marked c.args.u.now (c.contains.ensures.0 c.if-contains.true)))

pub returns-then-not-has_marked : goal.returns-then-not-has_marked
returns-then-not-has_marked c = λ q.
    lost_none (Contains c.args.lost.now.items q) (LostAt c.args.old.now c.args.new.now c.args._table.now c.args.u.now q)
    (λ l. true≢false (sym (c.has_marked.ensures.1 (l.0, subst (λ (us : List Unknown). Contains us l.0) (sym c.targets.ensures) ((c.requires.links.targets c.args.u.now l.0).1 l.3), c.requires.marks.removed l.0 l.4)) ∙ c.if-not-has_marked.true))

pub returns : goal.returns
returns c = λ q.
    let found = c.has_marked.ensures.0 c.if-not-has_marked.false in
    lost_pushed c.args.old.now c.args.new.now c.requires.new c.args._table.now c.args.u.now c.renamed.result q c.args.lost.now.items c.push.new.self.items c.in_ok-push.ensures.items c.renamed.ensures
    (λ removed. true≢false (sym (c.contains.ensures.1 (c.requires.marks.removed c.args.u.now removed)) ∙ c.if-contains.false))
    found.0 ((c.requires.links.targets c.args.u.now found.0).0 (subst (λ (us : List Unknown). Contains us found.0) c.targets.ensures found.1)) (c.requires.marks.marked found.0 found.2)
