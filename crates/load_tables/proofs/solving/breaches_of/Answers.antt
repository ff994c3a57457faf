use Rattle.std.proofs.Common.{◌≡◌, None, rules, subst, sym}
use Rattle.std.specs.Arc.{arc_value}
use Rattle.gob_tree.specs.declared.graph.Program.{Program}
use Rattle.constraint_sys.specs.PostSolution.{IsPostSolution}
use Rattle.constraint_sys.specs.Sound.{IsShaped}
use Rattle.load_tables.proofs.solving.breaches_of.Goals as goal

pub post_check-requires-clause-shaped : goal.post_check-requires-clause-shaped
post_check-requires-clause-shaped c =
    let own : c.program-program.result.now ≡ (arc_value c.args.solved.now.source).program = search rules in
    subst (λ (p : Program). IsShaped p c.args.solved.now.table) (sym own) c.requires.shaped

pub returns-in-Some : goal.returns-in-Some
returns-in-Some c =
    let own : c.program-program.result.now ≡ (arc_value c.args.solved.now.source).program = search rules in
    let solution = subst (λ (p : Program). IsPostSolution p c.args.solved.now.table) (sym own) c.requires.post_solution in
    let none : c.in_ok-_breach.field-0 ≡ None = c.in_ok-_breach.ensures.none.1 solution in
    absurd (cc)
