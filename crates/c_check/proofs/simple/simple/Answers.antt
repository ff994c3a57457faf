use Rattle.c_check.proofs.StmtForms.{declare_reads}
use Rattle.c_check.proofs.simple.simple.Goals as goal

pub returns-in-Declare : goal.returns-in-Declare
returns-in-Declare c =
    declare_reads c.args.file.now c.args.place c.args.in_loop c.args.body.now c.declare.result c.declare.new.body c.args.raw.now c.in-Declare.width c.in-Declare.name c.in-Declare.initial
    c.in-Declare.is c.declare.ensures
