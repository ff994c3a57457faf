use Rattle.std.proofs.Common.{◌≡◌, ◌↔◌, List, subst, sym, ap, ◌∙◌}
use Rattle.std.specs.Prelude.{Contains}
use Rattle.constraint_sys.specs.declared.unknown.Unknown.{Unknown}
use Rattle.dep_index.specs.Noted.{Notes, reads_of}
use Rattle.dep_index.specs.Rows.{Rows, IsInverse, set_at}
use Rattle.dep_index.proofs.Stepping.{noted_is, noted_same, inverse_after, inverse_same, reads_of-notes}
use Rattle.dep_index.proofs.index.DepIndex.note.Goals as goal

pub returns-then-are_same-clause-ok : goal.returns-then-are_same-clause-ok
returns-then-are_same-clause-ok c =
    let reads = c.self.inside.reads.entries in
    let r = c.args.reader in
    let is : reads_of c.args.self.now r ≡ c.args.reads.now =
    ap (λ (l : Notes). reads_of l r) (sym c.self.view_is) ∙ reads_of-notes reads r ∙ sym c.row.ensures ∙ c.are_same.ensures c.if-are_same.true in
    noted_same c.args.self.now r c.args.reads.now is

pub invariant_of-self : goal.invariant_of-self
invariant_of-self c = inverse_same c.self.inside.reads.entries c.self.inside.readers.entries c.reserve_each.new.rows.entries c.self.invariant c.in_err-reserve_each.ensures.same

pub invariant_of-self-in_err-exchange : goal.invariant_of-self-in_err-exchange
invariant_of-self-in_err-exchange c =
    subst (λ (l : Rows). IsInverse l c.reserve_each.new.rows.entries) (sym c.in_err-exchange.ensures.err)
    (inverse_same c.self.inside.reads.entries c.self.inside.readers.entries c.reserve_each.new.rows.entries c.self.invariant c.in_ok-reserve_each.ensures.same)

pub invariant_of-self-2 : goal.invariant_of-self-2
invariant_of-self-2 c =
    let old = c.self.inside.reads.entries in
    let r = c.args.reader in
    let xs = c.args.reads.now in
    let gone = c.as_slice-2.result.now in
    let added = c.as_slice-3.result.now in
    inverse_after old c.exchange.new.rows.entries r xs (c.in_ok-exchange.ensures.new ∙ c.in_ok-fresh.ensures.items) c.in_ok-exchange.ensures.others
    c.self.inside.readers.entries c.reserve_each.new.rows.entries c.take_each.new.rows.entries c.put_each.new.rows.entries gone added c.self.invariant c.in_ok-reserve_each.ensures.same
    (λ w. subst (λ (l : List Unknown). Contains l w ↔ (Contains (set_at old r) w × (Contains xs w → ⊥))) (sym c.as_slice-2.ensures.value)
    (subst (λ (l : List Unknown). Contains c.in_ok-gone.gone.items w ↔ (Contains l w × (Contains xs w → ⊥))) c.row-2.ensures (c.in_ok-gone.ensures w)))
    (λ w. subst (λ (l : List Unknown). Contains l w ↔ (Contains xs w × (Contains (set_at old r) w → ⊥))) (sym c.as_slice-3.ensures.value)
    (subst (λ (l : List Unknown). Contains c.in_ok-added.added.items w ↔ (Contains xs w × (Contains l w → ⊥))) c.row-3.ensures (c.in_ok-added.ensures w)))
    c.take_each.ensures.members c.put_each.ensures.members c.put_each.ensures.ascending

pub returns-clause-ok : goal.returns-clause-ok
returns-clause-ok c = noted_is c.self.inside.reads.entries c.exchange.new.rows.entries c.args.reader c.args.reads.now (c.in_ok-exchange.ensures.new ∙ c.in_ok-fresh.ensures.items) c.in_ok-exchange.ensures.others c.args.self.now c.self.view_is
