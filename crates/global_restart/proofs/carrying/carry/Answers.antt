use Rattle.global_restart.proofs.Whole.{carries_all, rooted_known}
use Rattle.global_restart.proofs.carrying.carry.Goals as goal

pub add_lacking-requires-clause-of_program : goal.add_lacking-requires-clause-of_program
add_lacking-requires-clause-of_program c =
    rooted_known c.args.old.now c.args.new.now c.requires.new c.args.table.now c.in_ok-carried.carried c.add_roots.new.table c.in_ok-carried.ensures.entries c.in_ok-add_roots.ensures

pub returns : goal.returns
returns c =
    carries_all c.args.old.now c.args.new.now c.args.table.now c.in_ok-carried.carried c.add_roots.new.table c.add_lacking.new.table
    c.in_ok-carried.lost.items c.as_slice.result.now c.in_ok-lacking.lacking.items c.as_slice-2.result.now c.in_ok-dirty.dirty
    c.in_ok-carried.ensures.entries c.in_ok-add_roots.ensures c.in_ok-lacking.ensures.table c.in_ok-lacking.ensures.added c.in_ok-carried.ensures.lost c.as_slice.ensures.value c.as_slice-2.ensures.value
    c.in_ok-dirty.ensures.members c.in_ok-dirty.ensures.ascending
