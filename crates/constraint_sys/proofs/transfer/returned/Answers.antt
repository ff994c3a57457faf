use Rattle.std.proofs.Common.{◌≡◌, Some, true, arith, rules}
use Rattle.std.specs.Option.{option_copied}
use Rattle.state_dom.specs.StateValue.{is_reached}
use Rattle.constraint_sys.specs.declared.value.Value.TheVariants.{State}
use Rattle.constraint_sys.proofs.Rooms.{reached_room}
use Rattle.constraint_sys.proofs.transfer.returned.Goals as goal

pub slot-requires : goal.slot-requires
slot-requires c =
    let s = c.in-Some-State.exit in
    let at : option_copied c.args.exit ≡ Some (State s) = search rules in
    let reached : is_reached s ≡ true = search rules in
    omega (arith, c.requires.exit s at, reached_room s reached)
