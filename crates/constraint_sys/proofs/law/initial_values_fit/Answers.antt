use Rattle.std.proofs.Common.{◌≡◌, subst, arith}
use Rattle.std.proofs.lemmas.Int.{ints}
use Rattle.interval_dom.specs.Bounds.{Bounds, Describes, between}
use Rattle.constraint_sys.proofs.SoundStart.{initial_fits}
use Rattle.constraint_sys.proofs.law.initial_values_fit.Goals as goal

pub returns-clause-number : goal.returns-clause-number
returns-clause-number c = λ decl x is.
    let same : between decl.initial decl.initial ≡ x = cc is in
    subst (λ (y : Bounds). Describes y decl.initial) same (omega (arith, ints), omega (arith, ints))

pub returns-clause-fits : goal.returns-clause-fits
returns-clause-fits c = λ p g decl formed at. initial_fits p formed g decl at
