use Rattle.std.proofs.Common.{◌≡◌, Some, rules}
use Rattle.constraint_sys.specs.Table.{value_at}
use Rattle.constraint_sys.proofs.Covering.{AreAlike-shaped}
use Rattle.constraint_sys.proofs.table.Table.bounds.Goals as goal

pub le-requires : goal.le-requires
le-requires c =
    let old = c.in-Some.old.now in
    let at : value_at c.args.self.now c.args.u.now ≡ Some old = search rules in
    AreAlike-shaped c.args.program.now c.args.u.now old c.args.v.now (c.requires.shaped c.args.u.now old at) c.requires.fits
