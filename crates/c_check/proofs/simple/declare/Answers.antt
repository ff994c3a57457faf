use Rattle.std.proofs.Common.{true}
use Rattle.c_check.proofs.StmtForms.{declare_done}
use Rattle.c_check.proofs.simple.declare.Goals as goal

pub returns : goal.returns
returns c =
    declare_done c.args.file.now c.args.name.now.place true c.args.body.now c.args.width c.args.name.now c.args.initial.now c.in_ok-slot.slot c.in_ok-initial.initial c.add_local.new.self
    c.in_ok-check_local.ensures c.in_ok-slot.ensures.slot c.in_ok-slot.ensures.scope c.in_ok-initial.ensures
