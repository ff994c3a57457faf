use Rattle.std.proofs.Common.{[], sym, ap, subst, is_some, arith}
use Rattle.std.proofs.lemmas.List.{take_all}
use Rattle.constraint_sys.specs.Carry.{KeepsEntries, no_entries}
use Rattle.constraint_sys.specs.Table.{TableValue}
use Rattle.global_restart.proofs.Keeps.{entry_at, fresh, keeps_more}
use Rattle.global_restart.proofs.kept.kept_entries.Goals as goal

pub loop-i-init : goal.loop-i-init
loop-i-init c = subst (λ (l : TableValue). KeepsEntries c.args.old.now c.args.new.now c.args.table.now [] l) (sym c.new-kept.ensures) no_entries

pub add_entry-requires-clause-there : goal.add_entry-requires-clause-there
add_entry-requires-clause-there c = ap is_some (entry_at c.args.table.now c.len-i-end.ensures.distinct c.loop-i.i c.unknown_at-u.result c.unknown_at-u.ensures).at

pub add_entry-requires-clause-fresh : goal.add_entry-requires-clause-fresh
add_entry-requires-clause-fresh c =
    fresh c.args.old.now c.args.new.now c.args.table.now c.requires.old c.requires.new c.loop-i.i c.unknown_at-u.result c.loop-i.kept
    (entry_at c.args.table.now c.len-i-end.ensures.distinct c.loop-i.i c.unknown_at-u.result c.unknown_at-u.ensures) c.loop-i.invariant

pub loop-i-preserved : goal.loop-i-preserved
loop-i-preserved c =
    keeps_more c.args.old.now c.args.new.now c.args.table.now c.loop-i.i c.unknown_at-u.result c.loop-i.kept c.add_entry.new.kept
    (entry_at c.args.table.now c.len-i-end.ensures.distinct c.loop-i.i c.unknown_at-u.result c.unknown_at-u.ensures) c.loop-i.invariant c.in_ok-add_entry.ensures

pub returns : goal.returns
returns c = subst (λ (l : TableValue). KeepsEntries c.args.old.now c.args.new.now c.args.table.now l c.loop-i.kept) (take_all c.loop-i.i c.args.table.now (omega (arith, c.loop-i-test.false, c.len-i-end.ensures.value))) c.loop-i.invariant
