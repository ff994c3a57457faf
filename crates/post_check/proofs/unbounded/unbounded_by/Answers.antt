use Rattle.std.proofs.Common.{List, sym, subst}
use Rattle.std.specs.Prelude.{All}
use Rattle.constraint_sys.specs.Sound.{IsShapedEntry}
use Rattle.constraint_sys.specs.declared.value.Effect.{Effect}
use Rattle.post_check.proofs.Within.{own_fits}
use Rattle.post_check.proofs.unbounded.unbounded_by.Goals as goal

pub bounds_state-requires-clause-fits : goal.bounds_state-requires-clause-fits
bounds_state-requires-clause-fits c = (own_fits c.args.program.now c.requires.formed c.args.table.now c.requires.shaped c.args.u.now c.requires.there c.args.given c.requires.given).0

pub first_unbounded-requires-clause-fit : goal.first_unbounded-requires-clause-fit
first_unbounded-requires-clause-fit c =
    subst (λ (es : List Effect). All (λ (e : Effect). IsShapedEntry c.args.program.now e.target e.value) es) (sym c.as_slice.ensures)
    (own_fits c.args.program.now c.requires.formed c.args.table.now c.requires.shaped c.args.u.now c.requires.there c.args.given c.requires.given).1
