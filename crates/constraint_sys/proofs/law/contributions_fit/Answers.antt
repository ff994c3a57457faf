use Rattle.std.proofs.lemmas.List.Elements.{All-weaker}
use Rattle.constraint_sys.specs.Table.{value_at}
use Rattle.constraint_sys.specs.declared.unknown.Unknown.TheVariants.{Point}
use Rattle.constraint_sys.specs.declared.value.Effect.{Effect}
use Rattle.constraint_sys.specs.Contribution.{contribution_of}
use Rattle.constraint_sys.specs.Sound.{IsShapedEntry}
use Rattle.constraint_sys.proofs.Contributing.{contribution_fits}
use Rattle.constraint_sys.proofs.Entries.{there_value}
use Rattle.constraint_sys.proofs.Fitting.{IsFitEffect}
use Rattle.constraint_sys.proofs.law.contributions_fit.Goals as goal

pub returns-clause-value : goal.returns-clause-value
returns-clause-value c = λ p t f key node formed shaped there.
    let found = there_value (value_at t (Point f key node)) there in
    (contribution_fits p formed t shaped f key node found.0 found.1).value

pub returns-clause-effects : goal.returns-clause-effects
returns-clause-effects c = λ p t f key node formed shaped there.
    let found = there_value (value_at t (Point f key node)) there in
    All-weaker (IsFitEffect p) (λ (e : Effect). IsShapedEntry p e.target e.value) (λ e one. one.fits) (contribution_of p t f key node).effects (contribution_fits p formed t shaped f key node found.0 found.1).effects
