use Rattle.constraint_sys.specs.declared.value.Value.TheVariants.{State, Number}
use Rattle.global_restart.proofs.Numbers.{number_renamed, value_named}
use Rattle.global_restart.proofs.renaming.renamed_value.Goals as goal

pub returns-in_ok-state-in-State : goal.returns-in_ok-state-in-State
returns-in_ok-state-in-State c =
    value_named c.args._old.now c.args._new.now c.args.value.now (State c.in-State.s) (State c.in_ok-state-in-State.state) c.in-State.is c.in_ok-state-in-State.ensures

pub returns-in-Number : goal.returns-in-Number
returns-in-Number c = number_renamed c.args._old.now c.args._new.now c.args.value.now c.in-Number.n c.in-Number.is
