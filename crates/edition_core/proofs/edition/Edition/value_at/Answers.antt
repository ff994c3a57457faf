use Rattle.std.proofs.Common.{◌≡◌, Option, subst, sym, ap}
use Rattle.std.specs.Arc.{arc_value}
use Rattle.constraint_sys.specs.Table.{IsThere, TableValue}
use Rattle.constraint_sys.specs.declared.unknown.Unknown.TheVariants.{Point}
use Rattle.constraint_sys.specs.declared.value.Value.{Value}
use Rattle.edition_core.specs.Editions.{IsState, Made}
use Rattle.edition_core.proofs.Valued.{point_has_state}
use Rattle.edition_core.proofs.edition.Edition.value_at.Goals as goal

pub state_of-requires : goal.state_of-requires
state_of-requires c =
    let v = c.args.v in
    let e = c.self.inside in
    let same : c.args.self.now.table ≡ e.table = ap (λ (m : Made). m.table) (sym c.self.view_is) in
    let there = subst (λ (t : TableValue). IsThere t (Point v.func v.key v.node)) same c.requires in
    subst (λ (o : Option Value). IsState o) (sym c.get.ensures) (point_has_state (arc_value e.source).program e.table c.self.invariant.1 v.func v.key v.node there)
