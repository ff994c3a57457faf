use Rattle.std.proofs.Common.{◌≡◌, rules, subst, sym}
use Rattle.std.specs.Arc.{arc_value}
use Rattle.gob_tree.specs.declared.graph.Program.{Program}
use Rattle.constraint_sys.specs.Carry.{Carries}
use Rattle.constraint_sys.specs.PostSolution.{IsPostSolution}
use Rattle.constraint_sys.specs.Sound.{IsShaped}
use Rattle.constraint_sys.specs.Turn.{Solving}
use Rattle.load_tables.proofs.solving.solve_edited.Goals as goal

pub carry-requires-clause-shaped : goal.carry-requires-clause-shaped
carry-requires-clause-shaped c =
    let own : c.program-old.result.now ≡ (arc_value c.args.before.now.source).program = search rules in
    subst (λ (p : Program). IsShaped p c.args.before.now.table) (sym own) c.requires.shaped

pub carry-requires-clause-post_solution : goal.carry-requires-clause-post_solution
carry-requires-clause-post_solution c =
    let own : c.program-old.result.now ≡ (arc_value c.args.before.now.source).program = search rules in
    subst (λ (p : Program). IsPostSolution p c.args.before.now.table) (sym own) c.requires.post_solution

pub solve_from-requires-clause-sound : goal.solve_from-requires-clause-sound
solve_from-requires-clause-sound c =
    let table = c.args.before.now.table in
    let start : Solving = record { table = c.in_ok-table.table; dirty = c.in_ok-table.dirty } in
    let before : c.program-old.result.now ≡ (arc_value c.args.before.now.source).program = search rules in
    let after : c.program.result.now ≡ c.in_ok-source.source.program = search rules in
    let carries =
    subst (λ (p : Program). Carries p c.in_ok-source.source.program table start) before
    (subst (λ (p : Program). Carries c.program-old.result.now p table start) after c.in_ok-table.ensures) in
    c.carried_is_sound.ensures _ _ table start c.requires.formed c.in_ok-source.ensures.formed c.requires.shaped c.requires.post_solution carries
