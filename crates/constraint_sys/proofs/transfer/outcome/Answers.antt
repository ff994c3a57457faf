use Rattle.std.proofs.Common.{◌≡◌, Some, true, subst, rules}
use Rattle.state_dom.specs.StateValue.{is_reached}
use Rattle.constraint_sys.specs.declared.unknown.Unknown.{Unknown}
use Rattle.constraint_sys.specs.declared.value.Value.TheVariants.{State}
use Rattle.constraint_sys.specs.Table.{value_at}
use Rattle.constraint_sys.proofs.Rooms.{entry_fits, entry_room}
use Rattle.constraint_sys.proofs.transfer.outcome.Goals as goal

pub done-requires-clause-fits : goal.done-requires-clause-fits
done-requires-clause-fits c =
    let s = c.in-Some-State.state in
    let t = c.args.table.now in
    let at : value_at t c.point.result ≡ Some (State s) = search rules in
    let here = subst (λ (u : Unknown). value_at t u ≡ Some (State s)) c.point.ensures at in
    let reached : is_reached s ≡ true = search rules in
    entry_fits c.args.program.now t c.args.func c.function_at-function.result.now c.args.key.now c.args.edge.now.from s c.function_at-function.ensures.is c.requires.shaped here reached

pub done-requires-clause-room : goal.done-requires-clause-room
done-requires-clause-room c =
    let s = c.in-Some-State.state in
    let t = c.args.table.now in
    let at : value_at t c.point.result ≡ Some (State s) = search rules in
    let here = subst (λ (u : Unknown). value_at t u ≡ Some (State s)) c.point.ensures at in
    entry_room c.args.program.now t c.args.func c.function_at-function.result.now c.args.key.now c.args.edge.now.from s c.function_at-function.ensures.is c.requires.shaped here
