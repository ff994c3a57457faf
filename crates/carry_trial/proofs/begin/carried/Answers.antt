use Rattle.std.proofs.Common.{◌≡◌, rules, sym, subst}
use Rattle.std.specs.Arc.{arc_value}
use Rattle.gob_tree.specs.declared.graph.Program.{Program}
use Rattle.constraint_sys.specs.Carry.{Carries}
use Rattle.constraint_sys.specs.Turn.{Solving}
use Rattle.carry_trial.proofs.Jobs.{next_sound}
use Rattle.carry_trial.proofs.begin.carried.Goals as goal

pub returns : goal.returns
returns c =
    let start : Solving = record { table = c.in_ok-table.table; dirty = c.in_ok-table.dirty } in
    let before : c.program.result.now ≡ (arc_value c.args.old.now.source).program = search rules in
    let after : c.program-2.result.now ≡ c.args.source.program = search rules in
    let carries =
    subst (λ (p : Program). Carries p c.args.source.program c.args.old.now.table start) before
    (subst (λ (p : Program). Carries c.program.result.now p c.args.old.now.table start) after c.in_ok-table.ensures) in
    next_sound c.in_ok-job.job c.args.source c.in_ok-job.ensures.source c.requires.formed c.args.old.now c.requires.old
    (subst (λ (s : Solving). Carries (arc_value c.args.old.now.source).program c.args.source.program c.args.old.now.table s) (sym c.in_ok-job.ensures.start) carries)
