use Rattle.std.proofs.Common.{◌↔◌, Bool, sym, subst}
use Rattle.std.specs.Prelude.{Contains, IsTrue}
use Rattle.constraint_sys.proofs.DirtySet.{member}
use Rattle.constraint_sys.proofs.dirty.has.Goals as goal

pub returns : goal.returns
returns c = subst (λ (b : Bool). IsTrue b ↔ Contains c.args.points.now.keys c.args.u.now) (sym c.contains.ensures) (member c.args.points.now c.args.u.now)
