use Rattle.std.proofs.Common.{◌≡◌, ◌∙◌, ap, subst}
use Rattle.std.specs.Arc.{arc_value}
use Rattle.c_source.specs.declared.source.Source.{Source}
use Rattle.gob_tree.specs.declared.graph.Program.{Program}
use Rattle.constraint_sys.specs.Turn.{Solving, Turns}
use Rattle.constraint_sys.proofs.Turning.{IsTurnable-turned}
use Rattle.td_solver.specs.Noting.{IsNoted}
use Rattle.td_solver.proofs.run.Run.make_turn.Goals as goal

pub invariant_of-self-2 : goal.invariant_of-self-2
invariant_of-self-2 c =
    let p = (arc_value c.self.inside.source).program in
    let before = c.self.invariant in
    let old : Solving = record { table = c.self.inside.table; dirty = c.self.inside.dirty } in
    let new : Solving = record { table = c.turn_noted.new.table; dirty = c.turn_noted.new.dirty } in
    let is : c.program.result.now ≡ p = c.program.ensures ∙ ap (λ (s : Source). s.program) c.deref.ensures in
    let turned : Turns p old c.args.u.now new = subst (λ (q : Program). Turns q old c.args.u.now new) is c.in_ok-turn_noted.ensures.turned in
    let noted : IsNoted p new c.turn_noted.new.index = subst (λ (q : Program). IsNoted q new c.turn_noted.new.index) is c.in_ok-turn_noted.ensures.noted in
    (before.0, before.1, IsTurnable-turned p before.0 old c.args.u.now new before.2 turned, noted)
