use Rattle.std.proofs.Common.{◌≡◌, ◌<◌, List, Option, length, subst, sym, ap}
use Rattle.std.specs.Arc.{arc_value}
use Rattle.gob_tree.specs.declared.unit.GlobalDecl.{GlobalDecl}
use Rattle.constraint_sys.specs.declared.value.Value.{Value}
use Rattle.edition_core.specs.Editions.{IsNumber, Made}
use Rattle.edition_core.proofs.Valued.{global_has_number}
use Rattle.edition_core.proofs.edition.Edition.global.Goals as goal

pub number_of-requires : goal.number_of-requires
number_of-requires c =
    let e = c.self.inside in
    let same : c.args.self.now.source.program.globals ≡ (arc_value e.source).program.globals = ap (λ (m : Made). m.source.program.globals) (sym c.self.view_is) in
    let within = subst (λ (l : List GlobalDecl). c.args.g < length l) same c.requires in
    subst (λ (o : Option Value). IsNumber o) (sym c.get.ensures) (global_has_number (arc_value e.source).program e.table c.self.invariant.1 c.args.g (c.self.invariant.2.roots.globals_there c.args.g within))
