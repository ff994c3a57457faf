use Rattle.std.proofs.Common.{◌≡◌, ◌∙◌, Some, length, sym, ap, subst, arith}
use Rattle.state_dom.specs.StateValue.{room_of}
use Rattle.constraint_sys.specs.declared.unknown.Unknown.{Unknown}
use Rattle.constraint_sys.specs.declared.value.Value.TheVariants.{State}
use Rattle.constraint_sys.specs.Table.{value_at}
use Rattle.constraint_sys.proofs.Calling.{length-frame}
use Rattle.constraint_sys.proofs.Rooms.{entry_room}
use Rattle.constraint_sys.proofs.transfer.called.Goals as goal

pub key_of-key-requires-clause-room : goal.key_of-key-requires-clause-room
key_of-key-requires-clause-room c =
    let callee = c.function_at-callee.result.now in
    let room : room_of c.in_ok-frame.frame ≡ length callee.slots = ap room_of c.in_ok-frame.ensures ∙ length-frame callee.slots c.args.args.now in
    omega (arith, room, c.function_at-callee.ensures.formed.returned_and_params)

pub returned-requires-clause-exit : goal.returned-requires-clause-exit
returned-requires-clause-exit c = λ s some.
    let callee = c.function_at-callee.result.now in
    let at : value_at c.args.table.now c.point-exit.result ≡ Some (State s) = sym c.get.ensures ∙ some in
    let here = subst (λ (u : Unknown). value_at c.args.table.now u ≡ Some (State s)) c.point-exit.ensures at in
    let room = entry_room c.args.program.now c.args.table.now c.args.site.func callee c.key_of-key.result 1 s c.function_at-callee.ensures.is c.requires.shaped here in
    omega (arith, room, c.function_at-callee.ensures.formed.returned_and_params)
