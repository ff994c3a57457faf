use Rattle.std.proofs.Common.{◌≡◌, Some, slice_get, rules}
use Rattle.std.specs.Map.{keys_of}
use Rattle.constraint_sys.proofs.Awakening.{there_at}
use Rattle.constraint_sys.proofs.readers.note_reader.Goals as goal

pub reads_any-requires-clause-there : goal.reads_any-requires-clause-there
reads_any-requires-clause-there c =
    let at : slice_get (keys_of c.args.table.now) c.args.i ≡ Some c.in-Some.q = search rules in
    there_at c.args.table.now c.args.i c.in-Some.q at
