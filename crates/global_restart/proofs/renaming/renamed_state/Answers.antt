use Rattle.global_restart.proofs.Numbers.{bottom_renamed, state_renamed}
use Rattle.global_restart.proofs.renaming.renamed_state.Goals as goal

pub returns-then-is_bottom : goal.returns-then-is_bottom
returns-then-is_bottom c =
    bottom_renamed c.args._old.now c.args._new.now c.args.s.now c.in_ok-state.state c.is_bottom.result c.is_bottom.ensures c.if-is_bottom.true c.in_ok-state.ensures

pub returns : goal.returns
returns c =
    state_renamed c.args._old.now c.args._new.now c.args.s.now c.in_ok-state.state c.set_locks.new.self c.locks.result c.renamed_locks-locks.result c.is_bottom.result c.is_bottom.ensures c.if-is_bottom.false
    c.in_ok-state.ensures c.locks.ensures c.renamed_locks-locks.ensures c.set_locks.ensures
