use Rattle.std.proofs.Common.{sym, ap, is_some, arith}
use Rattle.global_restart.proofs.Adding.{all_more, key_of_front}
use Rattle.global_restart.proofs.Keeps.{entry_at}
use Rattle.global_restart.proofs.lacking.add_lacking.Goals as goal

pub add_nodes-requires-clause-of_program : goal.add_nodes-requires-clause-of_program
add_nodes-requires-clause-of_program c =
    let t = c.args.table.now in
    let i = c.loop-i.i in
    let u = c.unknown_at-u.result in
    let at = key_of_front t _ c.loop-i.table i u c.loop-i.invariant.table (omega (arith, c.loop-i-test.true, c.len-i-end.ensures.value)) c.unknown_at-u.ensures in
    c.requires.of_program u (ap is_some (entry_at t c.len-i-end.ensures.distinct i u at).at)

pub loop-i-preserved : goal.loop-i-preserved
loop-i-preserved c =
    let t = c.args.table.now in
    let i = c.loop-i.i in
    let u = c.unknown_at-u.result in
    let at = key_of_front t _ c.loop-i.table i u c.loop-i.invariant.table (omega (arith, c.loop-i-test.true, c.len-i-end.ensures.value)) c.unknown_at-u.ensures in
    all_more c.args.program.now t i u c.loop-i.table c.add_nodes.new.table c.loop-i.added.items c.add_nodes.new.added.items (entry_at t c.len-i-end.ensures.distinct i u at) c.loop-i.invariant c.in_ok-add_nodes.ensures.table c.in_ok-add_nodes.ensures.added
