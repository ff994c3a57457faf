use Rattle.std.proofs.Common.{rules}
use Rattle.edition_core.proofs.Readings.{shape_length}
use Rattle.edition_core.proofs.printed.push_state.Goals as goal

pub push_reached-requires-clause-sizes : goal.push_reached-requires-clause-sizes
push_reached-requires-clause-sizes c = shape_length c.args.f.now.slots c.args.state.now (search rules) c.requires.shaped
