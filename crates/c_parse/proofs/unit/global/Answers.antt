use Rattle.std.proofs.Common.{rules, ap, ◌∙◌, ℤ}
use Rattle.std.proofs.lemmas.Int.{to_z-of_z}
use mir.Syntax.{w64}
use mir.Val.{SFits}
use Rattle.c_parse.specs.Grammar.{global}
use Rattle.c_parse.proofs.UnitExits.{given_found, unset_found}
use Rattle.c_parse.proofs.unit.global.Goals as goal

pub returns-in_ok-initial-in-Equals-clause-found : goal.returns-in_ok-initial-in-Equals-clause-found
returns-in_ok-initial-in-Equals-clause-found c =
    let fits : SFits w64 c.in_ok-initial-in-Equals.initial = search rules in
    given_found c.in-Some.ensures.cases.0 c.in-Equals.is c.in_ok-initial-in-Equals.ensures.found
    (c.global_of.ensures ∙ ap (λ (v : ℤ). global c.args.name c.args.width v c.in_ok-initial-in-Equals.literal) (to_z-of_z w64 c.in_ok-initial-in-Equals.initial fits))

pub returns-in_default-kind : goal.returns-in_default-kind
returns-in_default-kind c = record {
  found = unset_found c.in-Some.ensures.cases.0 c.in_default-kind.not-Equals c.unset-in_default-kind.ensures;
  unsigned = c.requires;
  stop = tt;
}
