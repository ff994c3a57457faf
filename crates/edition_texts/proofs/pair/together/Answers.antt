use Rattle.std.proofs.Common.{◌≡◌, List, sym, subst, rules}
use Rattle.abs_stepper.specs.declared.position.Thread.{Thread}
use Rattle.abs_stepper.specs.Positions.{IsPosition}
use Rattle.edition_texts.proofs.Pairs.{pair_of, pair_stands}
use Rattle.edition_texts.proofs.pair.together.Goals as goal

pub of-requires : goal.of-requires
of-requires c =
    let is : c.push-2.new.self ≡ pair_of c.args.first c.args.second = search rules in
    subst (λ (l : List Thread). IsPosition l) (sym is) (pair_stands c.args.first c.args.second c.args.one c.args.other c.requires.first c.requires.second c.requires.func c.requires.node)
