use Rattle.constraint_sys.proofs.Shaping.{room_of-reached}
use Rattle.constraint_sys.proofs.transfer.values.Goals as goal

pub eval-requires-clause-room : goal.eval-requires-clause-room
eval-requires-clause-room c = room_of-reached c.args.slots.now c.args.state.now c.requires.reached c.requires.fits
