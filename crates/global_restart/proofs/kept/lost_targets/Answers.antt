use Rattle.std.proofs.Common.{◌+◌, sym, ap, is_some, take, arith}
use Rattle.std.specs.Map.{keys_of}
use Rattle.std.specs.Prelude.{Contains}
use Rattle.std.proofs.lemmas.List.{length-map, take_all}
use Rattle.std.proofs.lemmas.Option.{get_or_from_slice_get, slice_get_within}
use Rattle.constraint_sys.specs.declared.unknown.Unknown.{Unknown}
use Rattle.constraint_sys.specs.declared.value.Value.{Value}
use Rattle.constraint_sys.proofs.Ordered.{Contains-take_more}
use Rattle.global_restart.proofs.Keeps.{entry_at, lost_all, lost_more}
use Rattle.global_restart.proofs.kept.lost_targets.Goals as goal

pub add_lost-requires-clause-there : goal.add_lost-requires-clause-there
add_lost-requires-clause-there c = ap is_some (entry_at c.args.table.now c.len-i-end.ensures.distinct c.loop-i.i c.unknown_at-u.result c.unknown_at-u.ensures).at

pub loop-i-preserved : goal.loop-i-preserved
loop-i-preserved c = λ q.
    let ks = keys_of c.args.table.now in
    let i = c.loop-i.i in
    let u = c.unknown_at-u.result in
    lost_more c.args.old.now c.args.new.now c.args.table.now (take i ks) (take (i + 1) ks) u q (Contains c.loop-i.lost.items q) (Contains c.add_lost.new.lost.items q)
    (λ r. Contains-take_more ks i u r (slice_get_within ks i u c.unknown_at-u.ensures) (sym (get_or_from_slice_get ks i u u c.unknown_at-u.ensures)))
    (c.loop-i.invariant q) (c.in_ok-add_lost.ensures q)

pub returns : goal.returns
returns c = λ q.
    let ks = keys_of c.args.table.now in
    lost_all c.args.old.now c.args.new.now c.args.table.now (take c.loop-i.i ks) q (Contains c.loop-i.lost.items q)
    (take_all c.loop-i.i ks (omega (arith, c.loop-i-test.false, c.len-i-end.ensures.value, length-map c.args.table.now (λ (e : Unknown × Value). e.0)))) (c.loop-i.invariant q)
